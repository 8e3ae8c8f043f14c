use Rattle.vd_cmd_data.proofs.Told.{columns_told}
use Rattle.vd_cmd_data.proofs.column_command.columns_tell.Goals as goal

pub returns : goal.returns
returns c = columns_told
