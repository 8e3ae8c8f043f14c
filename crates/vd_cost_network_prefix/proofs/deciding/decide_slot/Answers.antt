use Rattle.std.proofs.Common.{◌≡◌, [], get_or, sym, ap, ◌∙◌, arith}
use Rattle.std.proofs.lemmas.Int.{ints}
use Rattle.vd_cost_network_prefix.specs.States.{as_states, parts_by}
use Rattle.vd_cost_network_prefix.proofs.Changing.{begun, ended, arcs_are, one_more, points_are}
use Rattle.vd_cost_network_prefix.proofs.Moving.{parts_small}
use Rattle.vd_cost_network_prefix.proofs.deciding.decide_slot.Goals as goal

pub loop-point-init : goal.loop-point-init
loop-point-init c =
    let problem = c.args.problem.now in
    let tables = c.args.tables.now in
    let row = c.row_at-changed.ensures ∙ ap (λ rows. get_or rows c.args.slot []) c.as_slice.ensures ∙ points_are problem tables c.args.reach.now c.requires.tables.reached c.args.slot c.requires.slot in
    let given : c.args.parts ≡ parts_by tables (as_states c.args.states.now) = c.requires.parts.sum in
    let small = parts_small tables (as_states c.args.states.now) c.requires.tables.small in
    let small_low = small.low in
    let small_high = small.high in
    record {
      size = sym c.requires.parts.size ∙ c.requires.tables.points;
      written = begun problem c.args.prefix.now tables c.args.slot c.row_at-changed.result.now c.args.states.now c.requires.tables.points c.requires.beside row;
      sum = omega (arith, ints, given, small_low, small_high);
    }

pub change-sum-requires-clause-arcs : goal.change-sum-requires-clause-arcs
change-sum-requires-clause-arcs c = λ low.
    let point = get_or c.row_at-changed.result.now c.loop-point.point-index 0 in
    let size = c.loop-point.invariant.size in
    let points = c.requires.tables.points in
    c.row_at-arcs.ensures ∙ ap (λ rows. get_or rows point []) c.as_slice-in-loop-point.ensures ∙ arcs_are c.args.problem.now c.args.tables.now c.args.reach.now c.requires.tables.reached point (omega (arith, low, size, points))

pub change-sum-requires-clause-parts : goal.change-sum-requires-clause-parts
change-sum-requires-clause-parts c = record { size = c.requires.tables.points ∙ sym c.loop-point.invariant.size; sum = c.loop-point.invariant.sum }

pub loop-point-preserved : goal.loop-point-preserved
loop-point-preserved c =
    let is = c.change-sum.ensures.parts in
    let small = parts_small c.args.tables.now (as_states c.change-sum.new.states) c.requires.tables.small in
    let small_low = small.low in
    let small_high = small.high in
    record {
      size = c.change-sum.ensures.size ∙ c.loop-point.invariant.size;
      written = one_more c.args.problem.now c.args.prefix.now c.row_at-changed.result.now c.loop-point.point-index c.loop-point.states c.change-sum.new.states c.loop-point-test.true c.loop-point.invariant.size c.loop-point.invariant.written
          (λ low. c.change-sum.ensures.here low ∙ c.point_state-state.ensures) c.change-sum.ensures.others;
      sum = omega (arith, ints, is, small_low, small_high);
    }

pub returns-clause-states : goal.returns-clause-states
returns-clause-states c = ended c.args.problem.now c.args.prefix.now c.row_at-changed.result.now c.loop-point.point-index c.loop-point.states c.loop-point-test.false c.loop-point.invariant.size c.loop-point.invariant.written
