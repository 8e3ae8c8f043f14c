-- The problem with what further statements bring.
use Rattle.std.specs.Prelude.{ℕ, List, [], ◌∷◌, ◌++◌, map}
use Rattle.vd_core.specs.declared.normal.Stmt.{Stmt}
use Rattle.vd_constraints.specs.declared.labels.Labels.{Labels}
use Rattle.vd_space.specs.declared.problem.Problem.{Problem}
use Rattle.vd_space.specs.declared.problem.Making.{Making}
use Rattle.vd_space.specs.declared.problem.Guard.{Guard}
use Rattle.vd_space.specs.Reading.{Parts, all_parts, all_named, all_told, read_stmt}

abbrev pub with_parts : Problem → Parts → Problem
with_parts problem parts = record problem {
  slots = problem.slots ++ parts.slots;
  uses = problem.uses ++ parts.uses;
  outputs = problem.outputs ++ parts.outputs;
  guards = problem.guards ++ parts.guards;
  indexes = problem.indexes ++ parts.indexes;
}

abbrev pub with_slot : Problem → Making → Problem
with_slot problem making = record problem { slots = problem.slots ++ making ∷ [] }

-- with what a block brings that is executed so often
abbrev pub with_block : Problem → Labels → ℕ → List Stmt → Problem
with_block problem l weight body = with_parts problem (all_parts (map (read_stmt l) body) weight)

-- the guard of branches that name these slots and tell these hosts besides
abbrev pub with_branch : Guard → Labels → List Stmt → Guard
with_branch guard l body = record guard { slots = guard.slots ++ all_named (map (read_stmt l) body); hosts = guard.hosts ++ all_told (map (read_stmt l) body) }

abbrev pub with_stmt : Guard → Labels → Stmt → Guard
with_stmt guard l stmt = let read = read_stmt l stmt in record guard { slots = guard.slots ++ read.named; hosts = guard.hosts ++ read.told }
