use Rattle.std.proofs.Common.{◌-◌, refl, ◌∙◌}
use Rattle.vd_cmd_data.proofs.Laying.{next_places, next_rest, next_turn}
use Rattle.vd_cmd_data.proofs.outputs.+places.Goals as goal

pub add_block-loop-stmt-preserved : goal.add_block-loop-stmt-preserved
add_block-loop-stmt-preserved t c =
    let at = c.loop-stmt in
    let rest = next_rest c.args.told.source.now c.args.told.slots.now c.args.told.host c.args.body.now at.stmt-index at.rest.now c.behind_first-rest.result.now at.invariant.0 c.behind_first-rest.ensures in (
      rest,
      next_places c.args.told.source.now c.args.told.slots.now c.args.told.host c.args.body.now at.stmt-index c.stmt-item.result c.args.turns.now at.here c.around_first-inside.result c.around_rest-here.result at.places c.add_statement.new.places
          c.loop-stmt-test.true c.stmt-item.is (rw rest at (rw c.block_span.ensures at c.around_first-inside.ensures)) (rw c.statement_span.ensures at c.around_rest-here.ensures) c.in_ok-add_statement.ensures
          ∙ at.invariant.1,
    )

pub add_turns-loop-turn-preserved : goal.add_turns-loop-turn-preserved
add_turns-loop-turn-preserved t c =
    let at = c.loop-turn in
    next_turn c.args.told.source.now c.args.told.slots.now c.args.told.host c.args.body.now c.args.count at.turn (c.args.count - 1 - at.turn) c.args.turns.now c.as_slice.result.now at.here c.around_first-inside.result
    c.around_rest-here.result c.block_span-one.result at.places c.add_block.new.places c.loop-turn-test.true refl c.block_span-one.ensures (c.as_slice.ensures ∙ c.in_ok-inner.ensures {u = tt}) (rw c.times.ensures at c.around_first-inside.ensures)
    c.around_rest-here.ensures c.in_ok-add_block.ensures
    ∙ at.invariant
