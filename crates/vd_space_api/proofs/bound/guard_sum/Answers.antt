use Rattle.std.proofs.Common.{◌≡◌, refl, sym, ap, ◌∙◌, length, get_or, arith}
use Rattle.std.proofs.lemmas.List.FromFn.{get_or-map-range_with_len, length-map-range_with_len}
use Rattle.vd_base.specs.HostSets.{host}
use Rattle.vd_space.specs.Validity.{all_hosts}
use Rattle.vd_space_api.specs.Low.{guard_number}
use Rattle.vd_space_api.proofs.Smalls.{next_sum, no_sum, whole_sum}
use Rattle.vd_space_api.proofs.bound.guard_sum.Goals as goal

pub loop-host-init : goal.loop-host-init
loop-host-init c = no_sum (guard_number c.args.problem.now c.args.prefix.now c.args.guard.now) (all_hosts c.args.problem.now) 1000000000

pub overflow_add-sum : goal.overflow_add-sum
overflow_add-sum c =
    let size = ap length c.as_slice.ensures in
    let few = c.requires.list.labelled.few_hosts in
    let so_far = c.loop-host.invariant.small_sum in
    let test = c.loop-host-test.true in
    omega (arith, size, few, c.guard_told-sum.ensures.small, so_far, test)

pub loop-host-preserved : goal.loop-host-preserved
loop-host-preserved c =
    let problem = c.args.problem.now in
    let n = length problem.hosts in
    let f = guard_number problem c.args.prefix.now c.args.guard.now in
    let size = ap length c.as_slice.ensures in
    let range = length-map-range_with_len host 0 n in
    let test = c.loop-host-test.true in
    let here : get_or (all_hosts problem) c.loop-host.host (host 0) ≡ host c.loop-host.host = get_or-map-range_with_len host 0 n c.loop-host.host c.loop-host.host (host 0) (omega (arith, size, test)) (omega arith) in
    next_sum f (all_hosts problem) (all_hosts problem) (host 0) 1000000000 c.loop-host.host c.loop-host.sum c.guard_told-sum.result refl (omega (arith, size, test, range)) c.loop-host.invariant
    (c.guard_told-sum.ensures.told ∙ ap f (sym here)) c.guard_told-sum.ensures.small

pub returns-clause-sum : goal.returns-clause-sum
returns-clause-sum c =
    let problem = c.args.problem.now in
    let size = ap length c.as_slice.ensures in
    let range = length-map-range_with_len host 0 (length problem.hosts) in
    let past = c.loop-host-test.false in
    whole_sum (guard_number problem c.args.prefix.now c.args.guard.now) (all_hosts problem) 1000000000 c.loop-host.host c.loop-host.sum (omega (arith, size, past, range)) c.loop-host.invariant

pub returns-clause-small : goal.returns-clause-small
returns-clause-small c =
    let size = ap length c.as_slice.ensures in
    let few = c.requires.list.labelled.few_hosts in
    let so_far = c.loop-host.invariant.small_sum in
    let end = c.loop-host.auto.host-end in
    omega (arith, size, few, so_far, end)
