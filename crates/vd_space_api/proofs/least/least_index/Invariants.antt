use Rattle.std.proofs.Common.{◌≡◌}
use Rattle.vd_space.specs.Bounds.{may_stand}
use Rattle.vd_space_api.specs.Rows.{if_passes, least_number}
use Rattle.vd_space_api.specs.Low.{least_place, index_number}
use Rattle.vd_space_api.proofs.least.least_index.Given as goal

abbrev pub invariant-loop-place : goal.invariant-loop-place
invariant-loop-place l = l.least ≡ least_number l.place (λ p. if_passes (may_stand l.problem l.prefix l.index.array.0 p) (least_place l.problem l.prefix l.index.index.0 (index_number l.problem l.index p)))
