use Rattle.std.proofs.Common.{◌≡◌}
use Rattle.vd_space_api.specs.Rows.{given_at, least_number}
use Rattle.vd_space_api.proofs.space_shifts.rows.given_from.Given as goal

abbrev pub invariant-loop-place : goal.invariant-loop-place
invariant-loop-place l = l.least ≡ least_number l.place (given_at l.list l.weight l.targets l.taken l.from)
