use Rattle.std.proofs.Common.{arith, subst, length, ◌≤◌, ◌+◌, ◌*◌}
use Rattle.std.specs.Prelude.{unwrap_or}
use Rattle.vd_space.specs.Bounds.{add, outputs_value}
use Rattle.vd_space.specs.Costs.{operation_value}
use Rattle.std.proofs.Common.{pos}
use Rattle.vd_space_tables.proofs.Small.{more_within}
use Rattle.vd_space_tables.proofs.Loops.{output_step, outputs_end}
use Rattle.vd_space_tables.proofs.values.merged_at.Goals as goal

pub loop-output-preserved : goal.loop-output-preserved
loop-output-preserved c =
    let problem = c.args.problem.now in
    let slot = c.args.slot in
    let place = c.args.place in
    let i = c.loop-output.output-index in
    let whole = add (operation_value problem slot place) (outputs_value problem slot place problem.outputs) in
    record {
      left = output_step problem slot place c.as_slice-output-items.result.now problem.outputs i _ c.loop-output.sum c.with_output-sum.result whole c.as_slice-output-items.ensures c.loop-output-test.true c.with_output-sum.ensures.value c.loop-output.invariant.left;
      room = more_within (281474976710656 * (1 + i + 1)) (281474976710656 * (1 + (i + 1))) (unwrap_or c.with_output-sum.result (pos 0)) (omega arith) (c.with_output-sum.ensures.room (1 + i) c.loop-output.invariant.room);
    }

pub returns-in-Some : goal.returns-in-Some
returns-in-Some c =
    let problem = c.args.problem.now in
    let slot = c.args.slot in
    let place = c.args.place in
    let i = c.loop-output.output-index in
    let whole = add (operation_value problem slot place) (outputs_value problem slot place problem.outputs) in
    let past : length problem.outputs ≤ i = subst (λ os. length os ≤ i) c.as_slice-output-items.ensures c.loop-output-test.false in
    let within = subst (λ os. i ≤ length os) c.as_slice-output-items.ensures c.loop-output.auto.output-index-end in
    let count = c.requires.limits.count in
    outputs_end problem slot place problem.outputs i c.in-Some.sum c.args.shifted c.loop-output.sum whole past c.in-Some.is
    (more_within (281474976710656 * (1 + i)) 1152921504606846976 (unwrap_or c.loop-output.sum (pos 0)) (omega (arith, within, count)) c.loop-output.invariant.room) c.requires.shifted c.loop-output.invariant.left
