use Rattle.std.proofs.Common.{◌≡◌, ◌++◌}
use Rattle.vd_deal_needs.specs.Counted.{code_in}
use Rattle.vd_report.specs.ReportLines.{texts_below}
use Rattle.vd_cmd_needs.specs.RoundsLines.{told_line}
use Rattle.vd_cmd_needs.proofs.rounds_lines.push_links.Given as goal

abbrev pub invariant-loop-to : goal.invariant-loop-to
invariant-loop-to l = l.text ≡ l.initial.text ++ texts_below (told_line l.names l.from (code_in l.code)) l.to
