use Rattle.std.proofs.Common.{◌≡◌, map, take}
use Rattle.serde_json.specs.View.{view}
use Rattle.vd_lsp_messages.specs.Answers.{edit_data}
use Rattle.vd_lsp_messages.proofs.answers.edit_values.Given as goal

-- the values so far
abbrev pub invariant-loop-range : goal.invariant-loop-range
invariant-loop-range l = map view l.values.items ≡ map (edit_data l.word) (take l.range-index l.ranges)
