use Rattle.std.proofs.Common.{◌≡◌, map, take}
use Rattle.serde_json.specs.View.{view}
use Rattle.vd_cmd_data.specs.ReportText.{reading_data}
use Rattle.vd_cmd_data.proofs.report_text.outputs_value.Given as goal

-- the values of the words so far
abbrev pub invariant-loop-reading : goal.invariant-loop-reading
invariant-loop-reading l = map view l.values.items ≡ map reading_data (take l.reading-index l.readings)
