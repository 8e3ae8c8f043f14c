use Rattle.std.proofs.Common.{refl}
use Rattle.vd_cmd_host.specs.Hosts.{NotLoaded, Plainly}
use Rattle.vd_cmd_host.proofs.host_command.host.Goals as goal

pub returns-in-Err : goal.returns-in-Err
returns-in-Err g c = Plainly c.in-Err.status (NotLoaded c.in-Err.status (c.in-Err.ensures {u = tt}).loads refl refl) refl refl

pub returns-in-Ok : goal.returns-in-Ok
returns-in-Ok g c = c.run_dealt.ensures _ _ (c.in-Ok.ensures {u = tt}).loads
