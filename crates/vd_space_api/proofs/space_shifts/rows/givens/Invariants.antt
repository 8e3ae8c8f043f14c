use Rattle.std.proofs.Common.{◌≡◌, false}
use Rattle.std.specs.Prelude.{slice_index_or, unwrap_or}
use Rattle.vd_space_api.specs.Rows.{by_place, given_from, if_passes}
use Rattle.vd_base.specs.Holders.{proto_in}
use Rattle.vd_space_api.proofs.space_shifts.rows.givens.Given as goal

abbrev pub invariant-loop-place : goal.invariant-loop-place
invariant-loop-place l = l.givens ≡ by_place l.place (λ p. unwrap_or (if_passes (slice_index_or l.sources p false) (given_from l.list l.weight l.targets l.taken (proto_in l.list p))) 0)
