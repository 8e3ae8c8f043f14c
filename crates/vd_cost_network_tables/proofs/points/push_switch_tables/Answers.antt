use Rattle.std.proofs.Common.{◌≡◌, ◌+◌, ◌<◌, true, [], ◌∷◌, length, get_or, ap, sym, ◌∙◌, subst, arith, List}
use Rattle.vd_space_prefix.specs.Transfers.{by_place}
use Rattle.vd_space_prefix.proofs.Front.{grows}
use Rattle.vd_space.specs.declared.problem.Guard.{Guard}
use Rattle.vd_base.specs.declared.ids.HostId.{HostId}
use Rattle.vd_space.specs.Points.{switch_of}
use Rattle.vd_cost_network_prefix.specs.States.{count_of_points}
use Rattle.vd_cost_network_tables.specs.Tables.{table_by, table_of_values, switch_values}
use Rattle.vd_cost_network_tables.proofs.Pointing.{line_small, named_guard, named_inside, row_found, switch_item}
use Rattle.vd_cost_network_tables.proofs.Rawing.{switch_at, switches_size}
use Rattle.vd_cost_network_tables.proofs.points.push_switch_tables.Goals as goal

pub bounds-guards-switch : goal.bounds-guards-switch
bounds-guards-switch c =
    let problem = c.args.problem.now in
    let w = switch_at problem c.requires.well_formed.holds c.args.switches.now c.requires.switches c.loop-number.number c.loop-number-test.true c.index-switches-number.result c.index-switches-number.is in
    subst (λ (guards : List Guard). c.index-switches-number.result.guard < length guards) (sym c.as_slice-guards.ensures) (named_inside problem.guards c.index-switches-number.result.guard w.0.guard w.2.guard)

pub bounds-sums-slots : goal.bounds-sums-slots
bounds-sums-slots c =
    let problem = c.args.problem.now in
    let slots = ap length c.as_slice-slots.ensures in
    let many = switches_size problem c.requires.well_formed.holds c.args.switches.now c.requires.switches in
    let size = c.requires.sums.size in
    omega (arith, slots, many, size)

pub table_of_switch-requires-clause-host : goal.table_of_switch-requires-clause-host
table_of_switch-requires-clause-host c =
    let problem = c.args.problem.now in
    let w = switch_at problem c.requires.well_formed.holds c.args.switches.now c.requires.switches c.loop-number.number c.loop-number-test.true c.index-switches-number.result c.index-switches-number.is in
    subst (λ (h : HostId). h.0 < length problem.hosts) (sym w.2.host) w.2.known

pub table_of_switch-requires-clause-amounts : goal.table_of_switch-requires-clause-amounts
table_of_switch-requires-clause-amounts c =
    let problem = c.args.problem.now in
    let sums = c.args.sums.now in
    let slots = ap length c.as_slice-slots.ensures in
    let many = switches_size problem c.requires.well_formed.holds c.args.switches.now c.requires.switches in
    let size = c.requires.sums.size in
    let point = length problem.slots + c.loop-number.number in
    let low : point < length sums = omega (arith, many, size) in
    let at : c.index-sums-slots.result ≡ get_or sums point c.index-sums-slots.result = c.index-sums-slots.is ∙ ap (λ n. get_or sums (n + c.loop-number.number) c.index-sums-slots.result) slots in
    line_small sums point c.as_slice-amounts.result.now c.requires.sums.small (c.as_slice-amounts.ensures ∙ row_found sums point c.index-sums-slots.result low at)

pub loop-number-preserved : goal.loop-number-preserved
loop-number-preserved c =
    let problem = c.args.problem.now in
    let sums = c.args.sums.now in
    let number = c.loop-number.number in
    let slots = ap length c.as_slice-slots.ensures in
    let many = switches_size problem c.requires.well_formed.holds c.args.switches.now c.requires.switches in
    let size = c.requires.sums.size in
    let point = length problem.slots + number in
    let low : point < length sums = omega (arith, many, size) in
    let at : c.index-sums-slots.result ≡ get_or sums point c.index-sums-slots.result = c.index-sums-slots.is ∙ ap (λ n. get_or sums (n + number) c.index-sums-slots.result) slots in
    let amounts_are = c.as_slice-amounts.ensures ∙ row_found sums point c.index-sums-slots.result low at in
    let w = switch_at problem c.requires.well_formed.holds c.args.switches.now c.requires.switches number c.loop-number-test.true c.index-switches-number.result c.index-switches-number.is in
    let guard = named_guard problem.guards c.as_slice-guards.result.now c.index-switches-number.result.guard c.index-guards-switch.result w.0.guard c.as_slice-guards.ensures c.index-guards-switch.is w.2.guard in
    let table = c.in_ok-table_of_switch.field-0 in
    let after : point + 1 ≡ length problem.slots + (number + 1) = omega arith in
    grows (table_by problem sums) point c.loop-number.tables c.push.new.self table c.loop-number.invariant
    (switch_item problem sums number w.0 c.as_slice-amounts.result.now table w.1 amounts_are (c.in_ok-table_of_switch.ensures ∙ (λ i. table_of_values (true ∷ true ∷ []) (switch_values problem (switch_of (guard i) (w.2.host i)) c.as_slice-amounts.result.now))))
    c.in_ok-push.ensures.ok
    ∙ ap (λ n. by_place n (table_by problem sums)) after

pub returns : goal.returns
returns c =
    let problem = c.args.problem.now in
    let many = switches_size problem c.requires.well_formed.holds c.args.switches.now c.requires.switches in
    let all : length problem.slots + c.loop-number.number ≡ count_of_points problem = omega (arith, many) in
    c.loop-number.invariant ∙ ap (λ n. by_place n (table_by problem c.args.sums.now)) all
