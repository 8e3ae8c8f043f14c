use Rattle.std.proofs.Common.{◌≡◌}
use Rattle.vd_space.specs.Bounds.{may_stand}
use Rattle.vd_space_api.specs.Rows.{if_passes, least_number}
use Rattle.vd_space_api.specs.Low.{told_number}
use Rattle.vd_space_api.proofs.least.least_told.Given as goal

abbrev pub invariant-loop-place : goal.invariant-loop-place
invariant-loop-place l = l.least ≡ least_number l.place (λ p. if_passes (may_stand l.problem l.prefix l.slot p) (told_number l.problem l.weight l.host p))
