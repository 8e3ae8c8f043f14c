use Rattle.std.proofs.Common.{◌≡◌}
use Rattle.vd_space_api.specs.Rows.{by_place}
use Rattle.vd_space_api.specs.Terms.{operation_at}
use Rattle.vd_space_api.proofs.space_shifts.terms.operations_of.Given as goal

abbrev pub invariant-loop-place : goal.invariant-loop-place
invariant-loop-place l = l.row ≡ by_place l.place (operation_at l.problem l.making)
