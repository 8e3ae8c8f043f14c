use Rattle.std.proofs.Common.{◌≡◌, false, length, sym, ap, ◌∙◌}
use Rattle.std.specs.Prelude.{◌==◌}
use Rattle.std.specs.List.{list_all}
use Rattle.std.proofs.lemmas.Bool.{ne_eqb}
use Rattle.vd_space.specs.Validity.{all_hosts, guard_told, holder_told}
use Rattle.vd_space.proofs.Front.{guard_told_grows}
use Rattle.vd_space_prefix.proofs.naming.is_guard_still_told.Goals as goal

pub returns-else-from-before : goal.returns-else-from-before
returns-else-from-before c =
    let problem = c.args.problem.now in
    let before = c.args.before.now in
    let guard = c.args.guard.now in
    let choice = c.args.choice in
    let other : (guard.slot.0 == length before) ≡ false = ne_eqb guard.slot.0 (length before) (λ same. c.if-from-before.false (c.from.ensures ∙ same)) in
    c.are_holders_told.ensures
    ∙ ap (λ list. list_all (holder_told problem list guard.slot choice) (all_hosts problem)) c.requires.grown
    ∙ sym (guard_told_grows problem before choice guard c.requires.named other c.requires.told)
    ∙ ap (λ list. guard_told problem list guard) (sym c.requires.grown)
