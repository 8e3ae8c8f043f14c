use Rattle.std.proofs.Common.{◌≡◌, ◌++◌}
use Rattle.vd_report.specs.ReportLines.{texts_below}
use Rattle.vd_cmd_needs.specs.Lines.{host_lines, pairs_from}
use Rattle.vd_cmd_needs.proofs.lines.each_text.Given as goal

abbrev pub invariant-loop-first : goal.invariant-loop-first
invariant-loop-first l = l.text ≡ host_lines l.names l.needs ++ texts_below (pairs_from l.names l.needs) l.first
