use Rattle.vd_world.proofs.Supplies.{files_are_valid}
use Rattle.vd_world.proofs.world_report.laws.files_are_valid.Goals as goal

pub returns : goal.returns
returns c = files_are_valid
