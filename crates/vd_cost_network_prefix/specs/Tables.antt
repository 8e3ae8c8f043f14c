-- What network tables are for, and the path that goes by them.
use Rattle.std.specs.Prelude.{◌≡◌, ◌≤◌, ℕ, IsTrue, List, Option, length, take}
use Rattle.vd_space.specs.declared.problem.Problem.{Problem}
use Rattle.vd_space.specs.Validity.{is_valid}
use Rattle.vd_space.specs.WellFormed.{IsWellFormed}
use Rattle.vd_space_prefix.specs.Tables.{AreListed}
use Rattle.vd_cost_network_prefix.specs.declared.made.NetworkTables.{NetworkTables}
use Rattle.vd_cost_network_prefix.specs.States.{AreArcTables, ArePointTables, AreSwitchTables, AreSmallArcs, AreSmallPoints, states_of}

pub record AreNetworkTables (problem : Problem) (tables : NetworkTables) : Type 0 where
  pub well_formed : IsWellFormed problem
  pub points : ArePointTables problem tables.shifts tables.points
  pub arcs : AreArcTables problem tables.shifts tables.arcs
  pub switches : AreSwitchTables problem tables.switches
  pub small_points : AreSmallPoints tables.points
  pub small_arcs : AreSmallArcs tables.arcs

-- the choices so far, and what the first of them decide of each point: as many as make a valid prefix, and maybe more
pub record IsNetworkPath (problem : Problem) (choices : List ℕ) (known : List (Option ℕ)) (made told : ℕ) : Type 0 where
  pub room : length choices ≡ length problem.slots
  pub depth : made ≤ length problem.slots
  pub listed : AreListed problem (take made choices)
  pub within : told ≤ made
  pub states : known ≡ states_of problem (take told choices)
  pub valid : (k : ℕ) → k ≤ made → IsTrue (is_valid problem (take k choices)) → k ≤ told
