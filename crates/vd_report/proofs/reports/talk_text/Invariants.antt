use Rattle.std.proofs.Common.{◌≡◌, ◌-◌, ◌≤◌, length}
use Rattle.vd_report.specs.ReportLines.{texts_below, links_of}
use Rattle.vd_report.proofs.reports.talk_text.Given as goal

abbrev pub invariant-loop-from : goal.invariant-loop-from
invariant-loop-from l = record {
  within : l.from ≤ length l.hosts;
  so_far : l.text ≡ texts_below (links_of l.hosts l.talk) l.from;
}

abbrev pub decreases-loop-from : goal.decreases-loop-from
decreases-loop-from l = l.count - l.from
