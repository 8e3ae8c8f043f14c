-- Problems of programs within the limits: so sums of their terms are small numbers.
use Rattle.std.specs.Prelude.{ℕ, ◌+◌, ◌*◌, ◌≤◌, List, [], ◌∷◌, length, All}
use Rattle.vd_base.specs.Limits.{most_statements, most_weights}
use Rattle.vd_space.specs.declared.problem.Problem.{Problem}
use Rattle.vd_space.specs.declared.problem.Making.{Making}
use Rattle.vd_space.specs.declared.problem.Use.{Use}
use Rattle.vd_space.specs.declared.problem.Output.{Output}
use Rattle.vd_space.specs.declared.problem.Guard.{Guard}
use Rattle.vd_space.specs.declared.problem.Index.{Index}

-- ---- what everything costs at most

abbrev pub heft : {X : Type 0} → (X → ℕ) → List X → ℕ
heft f [] = 0
heft f (x ∷ xs) = f x + heft f xs

-- no operation costs more than 220, and no move more than 212; a guard and an index are told to four hosts at most
abbrev pub amount : List Making → List Use → List Output → List Guard → List Index → ℕ
amount slots uses outputs guards indexes =
    heft (λ (m : Making). 220 * m.weight) slots + heft (λ (u : Use). 212 * u.weight) uses + heft (λ (o : Output). 212 * o.weight) outputs + heft (λ (guard : Guard). 848 * guard.weight) guards + heft (λ (i : Index). 848 * i.weight) indexes

-- few slots and few values that are moved, none too often, and not much to pay for all of them
pub record IsWithinLimits (problem : Problem) : Type 0 where
  pub count : length problem.slots + length problem.uses + length problem.outputs + length problem.guards + length problem.indexes ≤ 4 * most_statements
  pub few_uses : length problem.uses ≤ 3 * most_statements
  pub costs : amount problem.slots problem.uses problem.outputs problem.guards problem.indexes ≤ 1704 * most_weights
  pub slots : All (λ (making : Making). making.weight ≤ most_weights) problem.slots
  pub uses : All (λ (u : Use). u.weight ≤ most_weights) problem.uses
  pub outputs : All (λ (o : Output). o.weight ≤ most_weights) problem.outputs
  pub guards : All (λ (guard : Guard). guard.weight ≤ most_weights) problem.guards
  pub indexes : All (λ (i : Index). i.weight ≤ most_weights) problem.indexes
