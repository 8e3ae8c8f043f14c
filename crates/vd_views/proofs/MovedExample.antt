-- The worked branch, computed.
use Rattle.std.proofs.Common.{refl}
use Rattle.vd_execution.specs.Registers.{put}
use Rattle.vd_views.specs.MovedExample.{WorkedBranch}

pub branch_numbers : WorkedBranch
unfolding put
branch_numbers = record { taken = λ t. refl; passed = λ t. refl; first = refl; second = refl; third = refl }
