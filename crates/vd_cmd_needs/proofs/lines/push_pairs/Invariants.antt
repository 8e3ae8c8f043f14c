use Rattle.std.proofs.Common.{◌≡◌, ◌++◌}
use Rattle.vd_report.specs.ReportLines.{texts_below}
use Rattle.vd_cmd_needs.specs.Lines.{later_line}
use Rattle.vd_cmd_needs.proofs.lines.push_pairs.Given as goal

abbrev pub invariant-loop-second : goal.invariant-loop-second
invariant-loop-second l = l.text ≡ l.initial.text ++ texts_below (later_line l.names l.needs l.first) l.second
