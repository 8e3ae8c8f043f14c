-- The tree of all lists of protocols of a problem, and what a problem keeps.
use Rattle.std.specs.Prelude.{◌≡◌, ℕ, ◌<◌, List, length, IsTrue, pos, ◌≤ℤ◌, ◌<ℤ◌}
use Rattle.std.specs.List.{AllByRecursion}
use Rattle.vd_search_tree.specs.Trees.{Tree}
use Rattle.vd_space.specs.declared.problem.Problem.{Problem}
use Rattle.vd_search_tree.specs.declared.shift.Shift.{Shift}
use Rattle.vd_space.specs.declared.problem.Use.{Use}
use Rattle.vd_space.specs.declared.problem.Output.{Output}
use Rattle.vd_space.specs.declared.problem.Guard.{Guard}
use Rattle.vd_space.specs.declared.problem.Index.{Index}
use Rattle.vd_space.specs.Validity.{protocols, is_valid}
use Rattle.vd_space.specs.Costs.{cost}
use Rattle.vd_space.specs.Bounds.{high}

-- The bound is the one under these shifts. At a whole list it is the cost, whatever the shifts are.
abbrev pub tree_of : Problem → List Shift → Tree
tree_of problem shifts = record {
  slots = length problem.slots;
  choices = length (protocols problem);
  valid = is_valid problem;
  bound = high problem shifts;
}

pub record IsUse (slots : ℕ) (u : Use) : Type 0 where
  pub source : u.source.0 < slots
  pub target : u.target.0 < slots

pub record IsIndex (slots : ℕ) (i : Index) : Type 0 where
  pub array : i.array.0 < slots
  pub index : i.index.0 < slots

-- what a program's problem keeps: the slots that are named exist, and the cost of a whole valid list is a number of 32 bits
pub record IsProblem (problem : Problem) : Type 0 where
  pub uses : AllByRecursion (IsUse (length problem.slots)) problem.uses
  pub outputs : AllByRecursion (λ (o : Output). o.slot.0 < length problem.slots) problem.outputs
  pub guards : AllByRecursion (λ (guard : Guard). guard.slot.0 < length problem.slots) problem.guards
  pub indexes : AllByRecursion (IsIndex (length problem.slots)) problem.indexes
  pub fits : (list : List ℕ) → length list ≡ length problem.slots → IsTrue (is_valid problem list) → (pos 0 ≤ℤ cost problem list) × (cost problem list <ℤ pos 4294967296)
