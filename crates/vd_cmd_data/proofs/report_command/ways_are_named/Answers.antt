use Rattle.vd_cmd_data.proofs.WaysNamed.{ways_named}
use Rattle.vd_cmd_data.proofs.report_command.ways_are_named.Goals as goal

pub returns : goal.returns
returns c = ways_named
