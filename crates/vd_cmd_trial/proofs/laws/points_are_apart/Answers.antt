use Rattle.std.proofs.Common.{arith}
use Rattle.vd_cmd_trial.proofs.laws.points_are_apart.Goals as goal

pub returns : goal.returns
returns c = λ host number. omega arith
