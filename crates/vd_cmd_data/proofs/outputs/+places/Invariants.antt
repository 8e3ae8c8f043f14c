use Rattle.std.proofs.Common.{◌≡◌, ◌-◌, ◌++◌, drop, map}
use Rattle.vd_cmd_data.specs.Outputs.{all_places, brings, turn_places}
use Rattle.vd_cmd_data.proofs.outputs.+places.Given as goal

-- the outputs that are left complete those so far
abbrev pub invariant-add_block-loop-stmt : goal.invariant-add_block-loop-stmt
invariant-add_block-loop-stmt l =
    (l.rest ≡ drop l.stmt-index l.body)
    × (l.places ++ all_places (map (brings l.told.source.now l.told.slots.now l.told.host) (drop l.stmt-index l.body)) l.turns l.here
    ≡ l.initial.places ++ all_places (map (brings l.told.source.now l.told.slots.now l.told.host) l.body) l.turns l.fn.around)

abbrev pub invariant-add_turns-loop-turn : goal.invariant-add_turns-loop-turn
invariant-add_turns-loop-turn l =
    l.places ++ turn_places (map (brings l.told.source.now l.told.slots.now l.told.host) l.body) (l.count - l.turn) l.turn l.turns l.here
    ≡ l.initial.places ++ turn_places (map (brings l.told.source.now l.told.slots.now l.told.host) l.body) l.count 0 l.turns l.fn.around
