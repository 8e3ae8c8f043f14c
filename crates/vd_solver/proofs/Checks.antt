-- The checks of a system at its labellings.
use Rattle.std.proofs.Common.{◌≡◌}
use Rattle.std.specs.Prelude.{All}
use Rattle.vd_constraints.specs.declared.labels.Labels.{Labels}
use Rattle.vd_constraints.specs.Systems.{Constraints, IsSystem}
use Rattle.vd_constraints.specs.Satisfies.{formula_at, IsLabelling}
use Rattle.vd_constraints.proofs.Front.{names-check}

-- the formulas of each check are over the same names
pub check_names : (s : Constraints) → IsSystem s → (l : Labels) → IsLabelling s l → All (λ check. check.constant.names ≡ (formula_at l check.part).names) s.checks
check_names s system l is k d low = names-check s l is _ (system.checks k d low)
