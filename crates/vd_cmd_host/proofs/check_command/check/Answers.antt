use Rattle.std.proofs.Common.{refl}
use Rattle.vd_cmd_host.specs.Checking.{NotRead}
use Rattle.vd_cmd_host.proofs.check_command.check.Goals as goal

pub returns-in-Err : goal.returns-in-Err
returns-in-Err g c = NotRead c.in-Err.status (c.in-Err.ensures {u = tt}).loads refl refl

pub returns-in-Ok : goal.returns-in-Ok
returns-in-Ok g c = c.check_loaded.ensures _ _ (c.in-Ok.ensures {u = tt}).loads
