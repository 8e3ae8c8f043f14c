use Rattle.std.proofs.Common.{◌≡◌, ◌++◌}
use Rattle.vd_report.specs.ReportLines.{texts_below}
use Rattle.vd_cmd_host.specs.Checking.{peer_lines}
use Rattle.vd_cmd_host.proofs.check_lines.push_shared.Given as goal

abbrev pub invariant-loop-peer : goal.invariant-loop-peer
invariant-loop-peer l = l.text ≡ l.initial.text ++ texts_below (peer_lines l.names l.me l.shared) l.peer
