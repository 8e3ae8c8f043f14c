-- Steps only make what is made larger.
use Rattle.std.proofs.Common.{ℕ, ◌≤◌, List, [], ◌∷◌, arith}
use Rattle.vd_core.specs.declared.normal.Stmt.{Stmt}
use Rattle.vd_core.specs.declared.normal.Stmt.TheOpen.{Stmt-F}
use Rattle.vd_long.specs.declared.steps.Place.{Place}
use Rattle.vd_long.specs.declared.steps.Step.{Step}
use Rattle.vd_long.specs.declared.steps.Step.TheVariants.{Lit, Copy, Load, One, Two, Three, NewVar, Store}
use Rattle.vd_rewrite.specs.Rewriting.{Made}
use Rattle.vd_long.specs.Lengthened.{step_made}
use Rattle.vd_long.specs.Steps.{step_of, step_in, steps_in}
use Rattle.vd_rewrite.specs.Stops.{size, IsTooLarge}

step_more : (at : ℕ → ℕ) (offset block : ℕ) (s : Stmt-F Stmt) (m : Made) → size m ≤ size (step_made at offset block s m)
step_more at offset block (Stmt-F.Let p r) m = omega arith
step_more at offset block (Stmt-F.NewVar p j) m = omega arith
step_more at offset block (Stmt-F.NewArray p cells) m = omega arith
step_more at offset block (Stmt-F.Store p j) m = omega arith
step_more at offset block (Stmt-F.Put p i j) m = omega arith
step_more at offset block (Stmt-F.Output p h o) m = omega arith
step_more at offset block (Stmt-F.If p a b o) m = omega arith
step_more at offset block (Stmt-F.For n b) m = omega arith

steps_more : (place : Place) (ss : List Step) (m : Made) → size m ≤ size (steps_in place ss m)
steps_more place [] m = omega arith
steps_more place (s ∷ ss) m =
    let one = step_more (λ p. p) 0 0 (step_of s) m in
    let one' = step_in_more place s m in
    let rest = steps_more place ss (step_in place s m) in
    omega (arith, one', rest)
  where
    step_in_more : (place : Place) (s : Step) (m : Made) → size m ≤ size (step_in place s m)
    step_in_more place (Lit to word) m = omega arith
    step_in_more place (Copy to p) m = omega arith
    step_in_more place (Load to p) m = omega arith
    step_in_more place (One to op a) m = omega arith
    step_in_more place (Two to op a b) m = omega arith
    step_in_more place (Three to op a b c) m = omega arith
    step_in_more place (NewVar to p) m = omega arith
    step_in_more place (Store to p) m = omega arith

pub first_stops : (place : Place) (s : Step) (ss : List Step) (m : Made) → IsTooLarge (step_in place s m) → IsTooLarge (steps_in place (s ∷ ss) m)
first_stops place s ss m large = let rest = steps_more place ss (step_in place s m) in omega (arith, rest, large)
