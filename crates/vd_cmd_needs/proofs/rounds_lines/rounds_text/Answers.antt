use Rattle.std.proofs.Common.{◌≡◌, ◌≤◌, ◌<◌, ◌+◌, ℕ, List, ap, sym, subst, ◌∙◌, length, arith}
use Rattle.std.proofs.Math.Numerals.{add-one}
use Rattle.vd_execution.specs.declared.instructions.Instr.{Instr}
use Rattle.vd_rounds.specs.Tallies.{IsTold}
use Rattle.vd_cmd_needs.specs.RoundsLines.{rounds_below}
use Rattle.vd_cmd_needs.proofs.Rounding.{one_host_more}
use Rattle.vd_cmd_needs.proofs.rounds_lines.rounds_text.Goals as goal

pub hosts-init : goal.hosts-init
hosts-init c = (omega arith, c.new-text.ensures)

pub push_links-requires-clause-told : goal.push_links-requires-clause-told
push_links-requires-clause-told c =
    let lt : c.hosts.from < length c.args.codes.now = omega (arith, c.hosts-test.true) in
    subst (λ (code : List Instr). IsTold code) (sym (c.as_slice.ensures ∙ c.index-codes-from.is)) (c.requires.told c.hosts.from c.index-codes-from.result lt)

pub hosts-preserved : goal.hosts-preserved
hosts-preserved c =
    let at = c.hosts in
    let lt : at.from < length c.args.codes.now = omega (arith, c.hosts-test.true) in (
      omega (arith, lt),
      subst (λ (n : ℕ). c.push_links.new.text ≡ rounds_below c.args.names.now c.args.codes.now n) (sym (add-one at.from))
          (one_host_more c.args.names.now c.args.codes.now at.from c.index-codes-from.result c.as_slice.result.now at.text c.push_links.new.text lt c.index-codes-from.is c.as_slice.ensures at.invariant.1
          (c.in_ok-push_links.ensures {u = tt})),
    )

pub returns : goal.returns
returns c =
    let at = c.hosts in
    let end : at.from ≡ length c.args.codes.now = omega (arith, at.invariant.0, c.hosts-test.false) in
    at.invariant.1 ∙ ap (λ (n : ℕ). rounds_below c.args.names.now c.args.codes.now n) end
