use Rattle.std.proofs.Common.{◌≡◌, ◌++◌, ◌-◌, ◌≤◌, length}
use Rattle.vd_report.specs.ReportLines.{texts_below, link_line}
use Rattle.vd_report.proofs.reports.push_links_of.Given as goal

abbrev pub invariant-loop-to : goal.invariant-loop-to
invariant-loop-to l = record {
  within : l.to ≤ length l.hosts;
  so_far : l.text ≡ l.initial.text ++ texts_below (link_line l.hosts l.talk l.from) l.to;
}

abbrev pub decreases-loop-to : goal.decreases-loop-to
decreases-loop-to l = l.count - l.to
