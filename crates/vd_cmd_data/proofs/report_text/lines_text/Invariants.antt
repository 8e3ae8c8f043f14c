use Rattle.std.proofs.Common.{◌≡◌, take, flat_map}
use Rattle.vd_cmd_data.specs.ReportText.{line_text}
use Rattle.vd_cmd_data.proofs.report_text.lines_text.Given as goal

abbrev pub invariant-loop-reading : goal.invariant-loop-reading
invariant-loop-reading l = l.text ≡ flat_map line_text (take l.reading-index l.readings)
