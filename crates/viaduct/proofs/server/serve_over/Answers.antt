use Rattle.std.proofs.Common.{◌≡◌, ℕ, List, inr, subst}
use Rattle.vd_cmd_plan.specs.Lines.{Says}
use Rattle.vd_cmd_plan.proofs.Front.{says}
use Rattle.viaduct.proofs.server.serve_over.Goals as goal

pub returns : goal.returns
returns g c =
    let said = says c.fault_line.result.now (g.E.Sink.view c.args.err.now) (g.E.Sink.view c.write_all.new.out) c.write_all.result c.write_all.ensures in
    inr (
      c.in-Err.fault,
      subst (λ (line : List ℕ). Says line (g.E.Sink.view c.args.err.now) (g.E.Sink.view c.write_all.new.out)) c.fault_line.ensures said,
      c.from-in-Err.ensures,
    )
