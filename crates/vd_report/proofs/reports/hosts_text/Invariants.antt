use Rattle.std.proofs.Common.{◌≡◌, ◌++◌}
use Rattle.vd_report.specs.ReportLines.{host_lines}
use Rattle.vd_report.proofs.reports.hosts_text.Given as goal

-- the lines of the hosts that are left complete those so far
abbrev pub invariant-loop-host : goal.invariant-loop-host
invariant-loop-host l = l.text ++ host_lines l.hosts l.host-iterator.a.rest.now l.host-iterator.b.rest.now ≡ host_lines l.hosts l.hosts l.lines
