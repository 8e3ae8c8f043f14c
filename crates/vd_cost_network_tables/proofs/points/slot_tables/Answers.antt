use Rattle.std.proofs.Common.{◌≡◌, ◌<◌, length, get_or, ap, ◌∙◌, arith}
use Rattle.vd_space_prefix.specs.Transfers.{by_place}
use Rattle.vd_space_prefix.proofs.Front.{grows, at_place, size_by_place}
use Rattle.vd_cost_network_prefix.specs.States.{count_of_points}
use Rattle.vd_cost_network_tables.specs.Tables.{table_by, tests_of}
use Rattle.vd_cost_network_tables.proofs.Pointing.{line_small, row_found, slot_item}
use Rattle.vd_cost_network_tables.proofs.points.slot_tables.Goals as goal

pub bounds-settings-slot : goal.bounds-settings-slot
bounds-settings-slot c =
    let problem = c.args.problem.now in
    let slots = ap length c.as_slice-slot-end.ensures in
    let size = ap length c.requires.settings ∙ size_by_place (count_of_points problem) (tests_of problem) in
    omega (arith, size, slots)

pub bounds-sums-slot : goal.bounds-sums-slot
bounds-sums-slot c =
    let slots = ap length c.as_slice-slot-end.ensures in
    let size = c.requires.sums.size in
    omega (arith, size, slots)

pub slot_table-requires-clause-slot : goal.slot_table-requires-clause-slot
slot_table-requires-clause-slot c = let slots = ap length c.as_slice-slot-end.ensures in omega (arith, slots)

pub slot_table-requires-clause-amounts : goal.slot_table-requires-clause-amounts
slot_table-requires-clause-amounts c =
    let sums = c.args.sums.now in
    let slot = c.loop-slot.slot in
    let slots = ap length c.as_slice-slot-end.ensures in
    let size = c.requires.sums.size in
    let low : slot < length sums = omega (arith, size, slots) in
    line_small sums slot c.as_slice-amounts.result.now c.requires.sums.small (c.as_slice-amounts.ensures ∙ row_found sums slot c.index-sums-slot.result low c.index-sums-slot.is)

pub loop-slot-preserved : goal.loop-slot-preserved
loop-slot-preserved c =
    let problem = c.args.problem.now in
    let sums = c.args.sums.now in
    let slot = c.loop-slot.slot in
    let slots = ap length c.as_slice-slot-end.ensures in
    let size = c.requires.sums.size in
    let low : slot < length problem.slots = omega (arith, slots) in
    let low_point : slot < count_of_points problem = omega (arith, slots) in
    let low_sums : slot < length sums = omega (arith, size, slots) in
    let tests = c.index-settings-slot.result in
    let tests_are = c.as_slice-tests.ensures ∙ c.index-settings-slot.is ∙ ap (λ rows. get_or rows slot tests) c.requires.settings ∙ at_place (count_of_points problem) (tests_of problem) slot tests low_point in
    let amounts_are = c.as_slice-amounts.ensures ∙ row_found sums slot c.index-sums-slot.result low_sums c.index-sums-slot.is in
    grows (table_by problem sums) slot c.loop-slot.tables c.push.new.self c.in_ok-slot_table.field-0 c.loop-slot.invariant
    (slot_item problem sums slot c.as_slice-tests.result.now c.as_slice-amounts.result.now c.in_ok-slot_table.field-0 low tests_are amounts_are c.in_ok-slot_table.ensures) c.in_ok-push.ensures.ok

pub returns : goal.returns
returns c =
    let problem = c.args.problem.now in
    let slots = ap length c.as_slice-slot-end.ensures in
    let all : c.loop-slot.slot ≡ length problem.slots = omega (arith, slots) in
    c.loop-slot.invariant ∙ ap (λ n. by_place n (table_by problem c.args.sums.now)) all
