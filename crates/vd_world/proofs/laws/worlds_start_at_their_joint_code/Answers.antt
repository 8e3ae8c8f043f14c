use Rattle.vd_world.proofs.Starting.{starts_as}
use Rattle.vd_world.proofs.laws.worlds_start_at_their_joint_code.Goals as goal

pub returns : goal.returns
returns c = starts_as
