use Rattle.vd_cmd_run.proofs.OwnLines.{lines_are}
use Rattle.vd_cmd_run.proofs.laws.each_host_has_its_line.Goals as goal

pub returns : goal.returns
returns c = lines_are
