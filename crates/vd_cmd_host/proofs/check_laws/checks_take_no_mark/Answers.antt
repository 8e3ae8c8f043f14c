use Rattle.vd_cmd_host.proofs.Checks.{take_no_mark}
use Rattle.vd_cmd_host.proofs.check_laws.checks_take_no_mark.Goals as goal

pub returns : goal.returns
returns c = take_no_mark
