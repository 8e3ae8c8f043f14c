use Rattle.std.proofs.Common.{refl}
use Rattle.vd_cmd_host.specs.Checking.{Checked, NotSeen}
use Rattle.vd_cmd_host.proofs.check_command.check_loaded.Goals as goal

pub returns-in-Err : goal.returns-in-Err
returns-in-Err g c = λ before now loads. NotSeen c.args.loaded.now c.in-Err.status loads (c.in-Err.ensures {u = tt}) refl

pub returns-in-Ok : goal.returns-in-Ok
returns-in-Ok g c = λ before now loads. Checked c.args.loaded.now c.in-Ok.used c.tell_findings.result loads (c.in-Ok.ensures {u = tt}) c.tell_findings.ensures
