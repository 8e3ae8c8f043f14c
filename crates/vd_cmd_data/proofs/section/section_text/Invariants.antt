use Rattle.std.proofs.Common.{◌≡◌, ◌++◌, take, flat_map}
use Rattle.vd_report.specs.SectionLines.{row_line}
use Rattle.vd_cmd_data.proofs.section.section_text.Given as goal

abbrev pub invariant-loop-row : goal.invariant-loop-row
invariant-loop-row l = l.text ≡ l.initial.text ++ flat_map row_line (take l.row-index l.fn.rows)
