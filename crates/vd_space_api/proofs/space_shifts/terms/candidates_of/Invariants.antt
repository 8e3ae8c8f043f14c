use Rattle.std.proofs.Common.{◌≡◌}
use Rattle.vd_space.specs.Validity.{can_stand}
use Rattle.vd_space_api.specs.Rows.{by_place}
use Rattle.vd_space_api.proofs.space_shifts.terms.candidates_of.Given as goal

abbrev pub invariant-loop-place : goal.invariant-loop-place
invariant-loop-place l = l.candidates ≡ by_place l.place (can_stand l.problem l.making)
