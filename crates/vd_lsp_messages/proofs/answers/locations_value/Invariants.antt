use Rattle.std.proofs.Common.{◌≡◌, map, take}
use Rattle.serde_json.specs.View.{view}
use Rattle.vd_lsp_messages.specs.Answers.{location_data}
use Rattle.vd_lsp_messages.proofs.answers.locations_value.Given as goal

-- the values so far
abbrev pub invariant-loop-range : goal.invariant-loop-range
invariant-loop-range l = map view l.values.items ≡ map (location_data l.uri) (take l.range-index l.ranges)
