-- One function gives each system its outcome.
use Rattle.std.proofs.Common.{ℕ, zero, inl, inr}
use Rattle.std.specs.Prelude.{Result, Err}
use Rattle.vd_constraints.specs.declared.labels.Labels.{Labels}
use Rattle.vd_constraints.specs.Systems.{Constraints, IsSystem}
use Rattle.vd_constraints.specs.Outcomes.{IsLabelled}
use Rattle.vd_solver.proofs.Somehow.{labelled_somehow}
use Rattle.vd_solver.proofs.Decided.{Decided, system_or_not}

-- what is no system gets any answer
outcome : (s : Constraints) → Decided (IsSystem s) → Result Labels ℕ
outcome s (inl system) = (labelled_somehow s system).0
outcome s (inr fails) = Err zero

outcome_is : (s : Constraints) (decided : Decided (IsSystem s)) → IsSystem s → IsLabelled s (outcome s decided)
unfolding outcome
outcome_is s (inl system) _ = (labelled_somehow s system).1
outcome_is s (inr fails) system = absurd (fails system)

pub labelling_of : Constraints → Result Labels ℕ
labelling_of s = outcome s (system_or_not s)

pub labelling_is : (s : Constraints) → IsSystem s → IsLabelled s (labelling_of s)
unfolding labelling_of
labelling_is s = outcome_is s (system_or_not s)
