use Rattle.std.proofs.Common.{ℕ, Option, List, ap, ◌∙◌, arith, ◌+ℤ◌}
use Rattle.std.proofs.lemmas.Int.{ints}
use Rattle.vd_space.specs.Costs.{total}
use Rattle.vd_cost_network_prefix.specs.States.{as_states, arc_part, point_part}
use Rattle.vd_cost_network_prefix.proofs.Moving.{put_moves}
use Rattle.vd_cost_network_prefix.proofs.deciding.put.Goals as goal

pub overflow_add-result : goal.overflow_add-result
overflow_add-result c =
    let tables = c.args.tables.now in
    let arcs = c.args.arcs.now in
    let come_to = λ (list : List (Option ℕ)). point_part tables.points (as_states list) c.args.point +ℤ total (arc_part tables.arcs (as_states list)) arcs in
    let moves = put_moves tables c.args.states.now c.set.new.self arcs c.args.point c.args.state c.sum_of_parts_at-before.result c.sum_of_parts_at-after.result c.args.parts c.requires.small c.requires.parts.size c.requires.point c.requires.arcs c.set.ensures
    (c.sum_of_parts_at-before.ensures.sum ∙ ap come_to c.as_slice.ensures) (c.sum_of_parts_at-after.ensures.sum ∙ ap come_to c.as_slice-2.ensures) c.requires.parts.sum in
    let moved = moves.0 in
    let first_low = moves.1.low in
    let first_high = moves.1.high in
    let second_low = moves.2.low in
    let second_high = moves.2.high in
    omega (arith, ints, moved, first_low, first_high, second_low, second_high)

pub returns-clause-parts : goal.returns-clause-parts
returns-clause-parts c =
    let tables = c.args.tables.now in
    let arcs = c.args.arcs.now in
    let come_to = λ (list : List (Option ℕ)). point_part tables.points (as_states list) c.args.point +ℤ total (arc_part tables.arcs (as_states list)) arcs in
    let moves = put_moves tables c.args.states.now c.set.new.self arcs c.args.point c.args.state c.sum_of_parts_at-before.result c.sum_of_parts_at-after.result c.args.parts c.requires.small c.requires.parts.size c.requires.point c.requires.arcs c.set.ensures
    (c.sum_of_parts_at-before.ensures.sum ∙ ap come_to c.as_slice.ensures) (c.sum_of_parts_at-after.ensures.sum ∙ ap come_to c.as_slice-2.ensures) c.requires.parts.sum in
    let moved = moves.0 in
    let first_low = moves.1.low in
    let first_high = moves.1.high in
    let second_low = moves.2.low in
    let second_high = moves.2.high in
    omega (arith, ints, moved, first_low, first_high, second_low, second_high)
