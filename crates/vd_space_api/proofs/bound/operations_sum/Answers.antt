use Rattle.std.proofs.Common.{◌≡◌, refl, sym, ap, ◌∙◌, length, get_or, arith}
use Rattle.std.proofs.lemmas.List.FromFn.{get_or-range_with_len, length-range_with_len}
use Rattle.vd_space.specs.Costs.{slots_of}
use Rattle.vd_space_api.specs.Low.{least_operation}
use Rattle.vd_space_api.proofs.Smalls.{next_sum, no_sum, operation_small, whole_sum}
use Rattle.vd_space_api.proofs.bound.operations_sum.Goals as goal

pub loop-slot-init : goal.loop-slot-init
loop-slot-init c = no_sum (least_operation c.args.problem.now c.args.prefix.now) (slots_of c.args.problem.now) 1000000000

pub overflow_add-sum : goal.overflow_add-sum
overflow_add-sum c =
    let size = ap length c.as_slice-slot-end.ensures in
    let item = operation_small c.args.problem.now c.requires.list.labelled.few_hosts c.args.prefix.now c.requires.limits c.loop-slot.slot in
    let so_far = c.loop-slot.invariant.small_sum in
    let test = c.loop-slot-test.true in
    let count = c.requires.limits.count in
    omega (arith, size, item, c.least_operation-sum.ensures, so_far, test, count)

pub loop-slot-preserved : goal.loop-slot-preserved
loop-slot-preserved c =
    let problem = c.args.problem.now in
    let n = length problem.slots in
    let size = ap length c.as_slice-slot-end.ensures in
    let range = length-range_with_len 0 n in
    let test = c.loop-slot-test.true in
    let here : get_or (slots_of problem) c.loop-slot.slot 0 ≡ c.loop-slot.slot = get_or-range_with_len 0 n c.loop-slot.slot 0 (omega (arith, size, test)) ∙ omega arith in
    let item = operation_small problem c.requires.list.labelled.few_hosts c.args.prefix.now c.requires.limits c.loop-slot.slot in
    next_sum (least_operation problem c.args.prefix.now) (slots_of problem) (slots_of problem) 0 1000000000 c.loop-slot.slot c.loop-slot.sum c.least_operation-sum.result refl (omega (arith, size, test, range)) c.loop-slot.invariant
    (c.least_operation-sum.ensures ∙ ap (least_operation problem c.args.prefix.now) (sym here)) (omega (arith, item, c.least_operation-sum.ensures))

pub returns-clause-sum : goal.returns-clause-sum
returns-clause-sum c =
    let size = ap length c.as_slice-slot-end.ensures in
    let range = length-range_with_len 0 (length c.args.problem.now.slots) in
    let past = c.loop-slot-test.false in
    whole_sum (least_operation c.args.problem.now c.args.prefix.now) (slots_of c.args.problem.now) 1000000000 c.loop-slot.slot c.loop-slot.sum (omega (arith, size, past, range)) c.loop-slot.invariant
