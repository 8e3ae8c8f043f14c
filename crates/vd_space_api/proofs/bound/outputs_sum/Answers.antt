use Rattle.std.proofs.Common.{ap, ◌∙◌, length, get_or, arith}
use Rattle.vd_space_api.specs.Low.{least_output, least_told}
use Rattle.vd_space_api.proofs.Smalls.{next_sum, no_output, no_sum, told_small, weight_in, whole_sum}
use Rattle.vd_space_api.proofs.bound.outputs_sum.Goals as goal

pub loop-at-init : goal.loop-at-init
loop-at-init c = no_sum (least_output c.args.problem.now c.args.prefix.now) c.args.problem.now.outputs 1000000000

pub overflow_add-sum : goal.overflow_add-sum
overflow_add-sum c =
    let size = ap length c.as_slice-outputs.ensures in
    let o = get_or c.as_slice-outputs.result.now c.loop-at.at no_output in
    let item = told_small c.args.problem.now c.requires.list.labelled.few_hosts c.args.prefix.now c.from.result o.weight o.host (weight_in (λ v. v.weight) c.args.problem.now.outputs c.as_slice-outputs.result.now no_output c.loop-at.at c.as_slice-outputs.ensures c.loop-at-test.true c.requires.limits.outputs) in
    let so_far = c.loop-at.invariant.small_sum in
    let test = c.loop-at-test.true in
    let count = c.requires.limits.count in
    omega (arith, size, item, c.least_told-sum.ensures, so_far, test, count)

pub loop-at-preserved : goal.loop-at-preserved
loop-at-preserved c =
    let o = get_or c.as_slice-outputs.result.now c.loop-at.at no_output in
    let item = told_small c.args.problem.now c.requires.list.labelled.few_hosts c.args.prefix.now c.from.result o.weight o.host (weight_in (λ v. v.weight) c.args.problem.now.outputs c.as_slice-outputs.result.now no_output c.loop-at.at c.as_slice-outputs.ensures c.loop-at-test.true c.requires.limits.outputs) in
    next_sum (least_output c.args.problem.now c.args.prefix.now) c.args.problem.now.outputs c.as_slice-outputs.result.now no_output 1000000000 c.loop-at.at c.loop-at.sum c.least_told-sum.result c.as_slice-outputs.ensures c.loop-at-test.true c.loop-at.invariant (c.least_told-sum.ensures ∙ ap (λ slot. least_told c.args.problem.now c.args.prefix.now slot o.weight o.host) c.from.ensures) (omega (arith, item, c.least_told-sum.ensures))

pub returns-clause-sum : goal.returns-clause-sum
returns-clause-sum c =
    let size = ap length c.as_slice-outputs.ensures in
    let past = c.loop-at-test.false in
    whole_sum (least_output c.args.problem.now c.args.prefix.now) c.args.problem.now.outputs 1000000000 c.loop-at.at c.loop-at.sum (omega (arith, size, past)) c.loop-at.invariant
