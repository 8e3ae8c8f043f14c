-- What the bound by arcs of every prefix is made of, whatever the shifts are.
use Rattle.std.specs.Prelude.{◌≡◌, ℕ, Option, List, map, ℤ}
use Rattle.vd_space.specs.declared.problem.Problem.{Problem}
use Rattle.vd_space.specs.Validity.{protocols}
use Rattle.vd_space.specs.WellFormed.{IsWellFormed}
use Rattle.vd_space_prefix.specs.Transfers.{by_place}
use Rattle.vd_space.specs.Arcs.{arcs, point_value}
use Rattle.vd_cost_network_prefix.specs.States.{count_of_points, settings}
use Rattle.vd_cost_network_tables.specs.Tables.{raw_arc, switch_tables_from, tests_of}
use Rattle.vd_cost_network_bound.specs.declared.made.NetworkBound.{NetworkBound}
use Rattle.vd_cost_network_bound.specs.Least.{passing}

-- what a point alone costs, by setting
abbrev pub values_at : Problem → ℕ → List (Option ℤ)
values_at problem point = by_place (settings problem point) (point_value problem point)

-- at which settings a point may be
abbrev pub free_at : Problem → ℕ → List ℕ
free_at problem point = passing (tests_of problem point)

pub record IsBoundOf (problem : Problem) (bound : NetworkBound) : Type 0 where
  pub well_formed : IsWellFormed problem
  pub list : bound.list ≡ protocols problem
  pub switches : bound.switches ≡ switch_tables_from problem 0 problem.guards
  pub arcs : bound.arcs ≡ map (raw_arc problem) (arcs problem)
  pub free : bound.free ≡ by_place (count_of_points problem) (free_at problem)
  pub values : bound.values ≡ by_place (count_of_points problem) (values_at problem)
