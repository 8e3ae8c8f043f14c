use Rattle.std.proofs.Common.{length}
use Rattle.vd_long.proofs.steps.Place.+steps.Given as goal

abbrev pub decreases-steps : goal.decreases-steps
decreases-steps l = length l.steps.now
