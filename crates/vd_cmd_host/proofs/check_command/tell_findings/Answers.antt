use Rattle.std.proofs.Common.{refl}
use Rattle.vd_cmd_host.specs.Checking.{NotTold}
use Rattle.vd_cmd_host.proofs.Checks.{told}
use Rattle.vd_cmd_host.proofs.check_command.tell_findings.Goals as goal

pub returns-in-Ok : goal.returns-in-Ok
returns-in-Ok g c =
    told c.args.words.now c.args.loaded.now c.args.used c.in-Ok.findings.text c.as_slice.result.now c.in-Ok.findings.end c.end_after.result c.write_all-written.result
    (g.O.Sink.view c.args.out.now) (g.O.Sink.view c.write_all-written.new.out) c.as_slice.ensures c.in-Ok.ensures.text c.in-Ok.ensures.end c.write_all-written.ensures c.end_after.ensures

pub returns-in-Err : goal.returns-in-Err
returns-in-Err g c = rw c.from.ensures (NotTold refl)
