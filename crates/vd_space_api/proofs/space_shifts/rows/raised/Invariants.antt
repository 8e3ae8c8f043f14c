use Rattle.std.proofs.Common.{◌≡◌, ◌+◌, None}
use Rattle.std.specs.Prelude.{option_map, slice_index_or}
use Rattle.vd_space_api.specs.Rows.{by_place}
use Rattle.vd_space_api.proofs.space_shifts.rows.raised.Given as goal

abbrev pub invariant-loop-place : goal.invariant-loop-place
invariant-loop-place l = l.raised ≡ by_place l.place (λ p. option_map (λ v. v + slice_index_or l.amounts p 0) (slice_index_or l.row p None))
