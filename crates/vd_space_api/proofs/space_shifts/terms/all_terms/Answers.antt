use Rattle.std.proofs.Common.{◌-◌, ap, length, get_or, arith}
use Rattle.vd_space_api.proofs.Costs.{costs_round, costs_small, costs_start, no_output}
use Rattle.vd_space_api.proofs.space_shifts.terms.all_terms.Goals as goal

pub loop-at-init : goal.loop-at-init
loop-at-init c =
    let size = ap length c.as_slice-outputs.ensures in
    costs_start c.args.problem.now c.requires.well_formed.labelled.few_hosts (length c.as_slice-outputs.result.now) c.in_ok-terms.terms (omega (arith, size)) c.in_ok-terms.ensures

pub add_output-requires-clause-small : goal.add_output-requires-clause-small
add_output-requires-clause-small c p = costs_small c.args.problem.now c.requires.well_formed.limits c.loop-at.at c.loop-at.terms c.loop-at.invariant (get_or c.as_slice-outputs.result.now (c.loop-at.at - 1) no_output).slot.0 p

pub loop-at-preserved : goal.loop-at-preserved
loop-at-preserved c =
    costs_round c.args.problem.now c.requires.well_formed.holds c.requires.well_formed.labelled c.args.list.now c.requires.list.all c.as_slice-outputs.result.now c.as_slice-outputs.ensures c.loop-at.at c.loop-at-test.true c.loop-at.auto.at
    c.loop-at.terms c.add_output.new.terms c.loop-at.invariant c.in_ok-add_output.ensures
