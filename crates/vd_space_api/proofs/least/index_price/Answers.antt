use Rattle.std.proofs.Common.{◌-◌, ap, ◌∙◌, length, arith}
use Rattle.vd_space_api.proofs.Telling.{told_next, told_start, told_whole}
use Rattle.vd_space_api.proofs.least.index_price.Goals as goal

pub loop-host-init : goal.loop-host-init
loop-host-init c =
    let size = ap length c.as_slice.ensures in
    record { sum = told_start c.args.problem.now c.args.index c.args.array (length c.as_slice.result.now) (omega (arith, size)); small = omega arith }

pub with_price-sum-requires-clause-sum : goal.with_price-sum-requires-clause-sum
with_price-sum-requires-clause-sum c =
    let few = c.requires.list.labelled.few_hosts in
    let small = c.loop-host.invariant.small in
    omega (arith, few, small)

pub loop-host-preserved : goal.loop-host-preserved
loop-host-preserved c =
    let size = ap length c.as_slice.ensures in
    let test = c.loop-host-test.true in
    let within = c.loop-host.auto.host in
    let small = c.loop-host.invariant.small in
    let more = c.with_price-sum.ensures.small in
    record {
      sum = told_next c.args.problem.now c.args.index c.args.array c.args.list.now c.requires.list.all (c.loop-host.host - 1) c.loop-host.host c.loop-host.sum c.with_price-sum.result (omega (arith, test)) (omega (arith, size, test, within)) c.loop-host.invariant.sum c.with_price-sum.ensures.value;
      small = omega (arith, size, test, within, small, more);
    }

pub returns-clause-value : goal.returns-clause-value
returns-clause-value c =
    let done = c.loop-host-test.false in
    c.loop-host.invariant.sum ∙ told_whole c.args.problem.now c.args.index c.args.array c.loop-host.host (omega (arith, done))

pub returns-clause-small : goal.returns-clause-small
returns-clause-small c =
    let few = c.requires.list.labelled.few_hosts in
    let small = c.loop-host.invariant.small in
    omega (arith, few, small)
