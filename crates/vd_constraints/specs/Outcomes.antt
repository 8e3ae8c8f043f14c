-- What a system comes to: its least labelling, or the check for which there is none.
use Rattle.std.specs.Prelude.{ℕ, Result, Ok, Err}
use Rattle.vd_constraints.specs.declared.labels.Labels.{Labels}
use Rattle.vd_constraints.specs.Systems.{Constraints}
use Rattle.vd_constraints.specs.Satisfies.{HoldsCheck, Satisfies, IsLeastSolution, IsLeast, IsFirstWithout}

-- no labelling satisfies the system, and this check is the first that fails at the least solution of its rules
pub record HasNoLabelling (s : Constraints) (check : ℕ) : Type 0 where
  pub none : (l : Labels) → Satisfies s l → ⊥
  pub least : Labels
  pub solves_rules : IsLeastSolution s least
  pub first : IsFirstWithout (HoldsCheck least) s.checks check

-- the least labelling, or the first check that fails
abbrev pub IsLabelled : Constraints → Result Labels ℕ → Type 0
IsLabelled s (Ok labels) = IsLeast s labels
IsLabelled s (Err check) = HasNoLabelling s check
