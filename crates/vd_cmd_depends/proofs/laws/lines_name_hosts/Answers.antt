use Rattle.vd_cmd_depends.proofs.ReadBack.{lines_are_read}
use Rattle.vd_cmd_depends.proofs.laws.lines_name_hosts.Goals as goal

pub returns : goal.returns
returns c = lines_are_read
