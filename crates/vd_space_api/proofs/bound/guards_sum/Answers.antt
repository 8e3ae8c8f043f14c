use Rattle.std.proofs.Common.{ap, length, arith}
use Rattle.vd_space_api.specs.Low.{least_guard}
use Rattle.vd_space_api.proofs.Smalls.{next_sum_read, no_sum, whole_sum}
use Rattle.vd_space_api.proofs.bound.guards_sum.Goals as goal

pub loop-at-init : goal.loop-at-init
loop-at-init c = no_sum (least_guard c.args.problem.now c.args.prefix.now) c.args.problem.now.guards 4000000000

pub overflow_add-sum : goal.overflow_add-sum
overflow_add-sum c =
    let size = ap length c.as_slice-guards.ensures in
    let so_far = c.loop-at.invariant.small_sum in
    let test = c.loop-at-test.true in
    let count = c.requires.limits.count in
    omega (arith, size, c.guard_sum-sum.ensures.small, so_far, test, count)

pub loop-at-preserved : goal.loop-at-preserved
loop-at-preserved c =
    next_sum_read (least_guard c.args.problem.now c.args.prefix.now) c.args.problem.now.guards c.as_slice-guards.result.now c.index-guards-at.result 4000000000 c.loop-at.at c.loop-at.sum c.guard_sum-sum.result
    c.as_slice-guards.ensures c.loop-at-test.true c.index-guards-at.is c.loop-at.invariant c.guard_sum-sum.ensures.sum c.guard_sum-sum.ensures.small

pub returns-clause-sum : goal.returns-clause-sum
returns-clause-sum c =
    let size = ap length c.as_slice-guards.ensures in
    let past = c.loop-at-test.false in
    whole_sum (least_guard c.args.problem.now c.args.prefix.now) c.args.problem.now.guards 4000000000 c.loop-at.at c.loop-at.sum (omega (arith, size, past)) c.loop-at.invariant
