use Rattle.std.proofs.Common.{refl}
use Rattle.vd_cmd_host.specs.Checking.{NoMark}
use Rattle.vd_cmd_host.proofs.check_command.look.Goals as goal

pub returns-in-None : goal.returns-in-None
returns-in-None g c = NoMark c.in-None.is refl
