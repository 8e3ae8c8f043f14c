use Rattle.std.proofs.Common.{length, sym, ap, ◌∙◌, ◌-ℤ◌, w64}
use Rattle.std.specs.Prelude.{◌==◌}
use Rattle.std.proofs.lemmas.Bool.{or_parts}
use Rattle.std.proofs.lemmas.Int.{to_z-of_z}
use Rattle.vd_space_prefix.specs.Guards.{guard_under}
use Rattle.vd_space_prefix.proofs.Joined.{joined_grows}
use Rattle.vd_space_prefix.proofs.guards.growth_of_guard.Goals as goal

pub returns-else-is_own-clause-growth : goal.returns-else-is_own-clause-growth
returns-else-is_own-clause-growth c =
    let problem = c.args.problem.now in
    let before = c.args.before.now in
    let guard = c.args.guard.now in
    let telling = c.args.telling.now in
    let parts = or_parts (guard.slot.0 == length before) (telling.slot == length before) (sym c.if-is_own.ensures) in
    to_z-of_z w64 c.joining_cost.result (record { sfits = c.joining_cost.type_inv })
    ∙ c.joining_cost.ensures.cost
    ∙ sym (joined_grows problem before c.args.choice guard telling c.requires.named parts.0 parts.1)
    ∙ ap (λ list. guard_under problem list guard telling -ℤ guard_under problem before guard telling) (sym c.requires.grown)
