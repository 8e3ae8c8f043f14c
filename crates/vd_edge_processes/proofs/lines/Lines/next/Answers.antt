use Rattle.std.proofs.Common.{ap, length}
use Rattle.vd_edge_processes.proofs.Cutting.{cut_off, last_line}
use Rattle.vd_edge_processes.proofs.lines.Lines.next.Goals as goal

pub returns-in_ok-line-in-Some : goal.returns-in_ok-line-in-Some
returns-in_ok-line-in-Some g c =
    cut_off g.O.Read.remaining c.args.self.now.output c.args.self.now.bytes c.as_slice.result.now c.in_ok-line-in-Some.line c.args.self.now.handed c.in-Some.end
    c.as_slice.ensures c.in-Some.ensures c.in_ok-line-in-Some.ensures.0

pub returns-in_ok-line-in-None-4 : goal.returns-in_ok-line-in-None-4
returns-in_ok-line-in-None-4 g c =
    last_line g.O.Read.remaining c.args.self.now.output c.args.self.now.bytes c.as_slice.result.now c.in_ok-line-in-None-4.line c.args.self.now.handed
    (length c.as_slice-in-None-4.result.now) c.as_slice.ensures c.if-is_some.ensures c.if-is_empty.ensures
    c.in_ok-line-in-None-4.ensures.0 c.in_ok-line-in-None-4.ensures.1.one_line (ap length c.as_slice-in-None-4.ensures)
