use Rattle.std.proofs.Common.{◌≡◌, ◌++◌}
use Rattle.vd_report.specs.ReportLines.{texts_below}
use Rattle.vd_cmd_needs.specs.Lines.{host_line, name_at, peer_line, shared_at}
use Rattle.vd_cmd_needs.proofs.lines.host_text.Given as goal

abbrev pub invariant-loop-peer : goal.invariant-loop-peer
invariant-loop-peer l = l.text ≡ host_line (name_at l.names l.me) l.needs ++ texts_below (λ peer. peer_line l.names l.me peer (shared_at l.needs peer)) l.peer
