use Rattle.std.proofs.Common.{ap, length, get_or, arith}
use Rattle.vd_space_api.specs.Low.{least_use}
use Rattle.vd_space_api.proofs.Smalls.{next_sum, no_sum, whole_sum, no_use, use_small, weight_in}
use Rattle.vd_space_api.proofs.bound.uses_sum.Goals as goal

pub loop-at-init : goal.loop-at-init
loop-at-init c = no_sum (least_use c.args.problem.now c.args.prefix.now) c.args.problem.now.uses 1000000000

pub overflow_add-sum : goal.overflow_add-sum
overflow_add-sum c =
    let size = ap length c.as_slice-uses.ensures in
    let item = use_small c.args.problem.now c.requires.list.labelled.few_hosts c.args.prefix.now (get_or c.as_slice-uses.result.now c.loop-at.at no_use) (weight_in (λ u. u.weight) c.args.problem.now.uses c.as_slice-uses.result.now no_use c.loop-at.at c.as_slice-uses.ensures c.loop-at-test.true c.requires.limits.uses) in
    let so_far = c.loop-at.invariant.small_sum in
    let test = c.loop-at-test.true in
    let count = c.requires.limits.count in
    omega (arith, size, item, c.least_use-sum.ensures, so_far, test, count)

pub loop-at-preserved : goal.loop-at-preserved
loop-at-preserved c =
    let item = use_small c.args.problem.now c.requires.list.labelled.few_hosts c.args.prefix.now (get_or c.as_slice-uses.result.now c.loop-at.at no_use) (weight_in (λ u. u.weight) c.args.problem.now.uses c.as_slice-uses.result.now no_use c.loop-at.at c.as_slice-uses.ensures c.loop-at-test.true c.requires.limits.uses) in
    next_sum (least_use c.args.problem.now c.args.prefix.now) c.args.problem.now.uses c.as_slice-uses.result.now no_use 1000000000 c.loop-at.at c.loop-at.sum c.least_use-sum.result c.as_slice-uses.ensures c.loop-at-test.true c.loop-at.invariant c.least_use-sum.ensures (omega (arith, item, c.least_use-sum.ensures))

pub returns-clause-sum : goal.returns-clause-sum
returns-clause-sum c =
    let size = ap length c.as_slice-uses.ensures in
    let past = c.loop-at-test.false in
    whole_sum (least_use c.args.problem.now c.args.prefix.now) c.args.problem.now.uses 1000000000 c.loop-at.at c.loop-at.sum (omega (arith, size, past)) c.loop-at.invariant
