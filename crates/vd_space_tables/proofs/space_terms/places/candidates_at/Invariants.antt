use Rattle.std.proofs.Common.{◌≡◌}
use Rattle.vd_space.specs.Validity.{can_stand}
use Rattle.vd_space_prefix.specs.Transfers.{by_place}
use Rattle.vd_space_tables.proofs.space_terms.places.candidates_at.Given as goal

abbrev pub invariant-loop-place : goal.invariant-loop-place
invariant-loop-place l = l.candidates ≡ by_place l.place (can_stand l.problem l.making)
