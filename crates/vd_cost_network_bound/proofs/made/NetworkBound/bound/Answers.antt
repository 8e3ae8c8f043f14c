use Rattle.std.proofs.Common.{◌≡◌, ℕ, Option, List, length, ap, ◌∙◌, arith, ◌+ℤ◌, to_z, of_z, w64}
use Rattle.std.specs.Int.{w128}
use Rattle.std.specs.List.{range_with_len}
use Rattle.std.proofs.lemmas.Int.{ints, to_z-of_z}
use Rattle.vd_space.specs.Costs.{total}
use Rattle.vd_space.specs.Arcs.{arcs}
use Rattle.vd_space.specs.Network.{by_arcs, units}
use Rattle.vd_cost_network_prefix.specs.States.{as_states, count_of_points, arc_part, point_part}
use Rattle.vd_cost_network_tables.specs.Tables.{arc_tables_of, point_tables_of}
use Rattle.vd_cost_network_tables.proofs.Front.{switch_tables_are}
use Rattle.vd_cost_network_bound.proofs.Summed.{bound_is, count_is, settings_decided}
use Rattle.vd_cost_network_bound.proofs.made.NetworkBound.bound.Goals as goal

pub decide-requires-clause-switches : goal.decide-requires-clause-switches
decide-requires-clause-switches c = switch_tables_are c.args.problem.now c.as_slice-3.result.now (c.as_slice-3.ensures ∙ c.requires.bound.switches)

pub decide-requires-clause-room : goal.decide-requires-clause-room
decide-requires-clause-room c = c.in_ok-states.ensures ∙ count_is c.args.problem.now c.args.self.now c.requires.bound c.as_slice.result.now c.as_slice.ensures

pub sum_of_points-requires-clause-states : goal.sum_of_points-requires-clause-states
sum_of_points-requires-clause-states c = settings_decided c.args.problem.now c.args.prefix.now c.as_slice-4.result.now c.requires.prefix (c.as_slice-4.ensures ∙ c.decide.ensures)

pub sum_of_arcs-requires-clause-states : goal.sum_of_arcs-requires-clause-states
sum_of_arcs-requires-clause-states c = settings_decided c.args.problem.now c.args.prefix.now c.as_slice-5.result.now c.requires.prefix (c.as_slice-5.ensures ∙ c.decide.ensures)

pub returns : goal.returns
returns c =
    let problem = c.args.problem.now in
    let shifts = c.args.shifts.now in
    let prefix = c.args.prefix.now in
    let first = c.in_ok-points.points in
    let second = c.in_ok-arcs.arcs in
    let points_are = c.in_ok-points.ensures.sum ∙ ap (λ (states : List (Option ℕ)). total (point_part (point_tables_of problem shifts) (as_states states)) (range_with_len 0 (count_of_points problem))) c.as_slice-4.ensures in
    let arcs_are = c.in_ok-arcs.ensures.sum ∙ ap (λ (states : List (Option ℕ)). total (arc_part (arc_tables_of problem shifts) (as_states states)) (range_with_len 0 (length (arcs problem)))) c.as_slice-5.ensures in
    let sum = bound_is problem c.requires.bound.well_formed shifts c.requires.few c.in_ok-points.ensures.small
    c.as_slice-3.result.now (switch_tables_are problem c.as_slice-3.result.now (c.as_slice-3.ensures ∙ c.requires.bound.switches))
    prefix c.requires.prefix c.decide.new.states c.decide.ensures first second points_are arcs_are in
    let first_low = c.in_ok-points.ensures.within.low in
    let first_high = c.in_ok-points.ensures.within.high in
    let second_low = c.in_ok-arcs.ensures.within.low in
    let second_high = c.in_ok-arcs.ensures.within.high in
    let whole : to_z w128 (of_z w128 (to_z w128 (of_z w128 first) +ℤ to_z w128 (of_z w128 second))) ≡ by_arcs problem shifts prefix = omega (arith, ints, sum, first_low, first_high, second_low, second_high) in
    to_z-of_z w64 c.whole_units.result (record { sfits = c.whole_units.type_inv }) ∙ c.whole_units.ensures.units ∙ ap units whole
