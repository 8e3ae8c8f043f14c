-- What the tables of a network are made from.
use Rattle.std.specs.Prelude.{◌≡◌, ℕ, ◌<◌, ◌≤◌, Bool, Option, List, map, length, ℤ}
use Rattle.vd_base.specs.declared.protocols.Proto.{Proto}
use Rattle.vd_space.specs.declared.problem.Problem.{Problem}
use Rattle.vd_space.specs.WellFormed.{AreProtocols}
use Rattle.vd_space_prefix.specs.Transfers.{ArePrices, by_place}
use Rattle.vd_space.specs.Arcs.{arcs}
use Rattle.vd_cost_network_prefix.specs.declared.made.SwitchTable.{SwitchTable}
use Rattle.vd_cost_network_prefix.specs.States.{count_of_points, settings}
use Rattle.vd_cost_network_tables.specs.declared.raw.RawArc.{RawArc}
use Rattle.vd_space_tables.specs.Sums.{AreSmallSums}
use Rattle.vd_cost_network_tables.specs.Tables.{raw_arc, switch_tables_from, tests_of}

-- the protocols, the switches by guard and host, and the arcs without shifts
pub record IsNetworkOf (problem : Problem) (list : List Proto) (switches : List SwitchTable) (raws : List RawArc) : Type 0 where
  pub listed : AreProtocols problem list
  pub switched : switches ≡ switch_tables_from problem 0 problem.guards
  pub by_arcs : raws ≡ map (raw_arc problem) (arcs problem)

-- at which settings each point may be, and so many settings as no point has more
pub record AreSettingsOf (problem : Problem) (tests : List (List Bool)) (most : ℕ) : Type 0 where
  pub are : tests ≡ by_place (count_of_points problem) (tests_of problem)
  pub few : (point : ℕ) → settings problem point ≤ most

-- what shifts put on each point, by setting: small numbers, of few points
pub record AreSumsByPoint (problem : Problem) (sums : List (List ℤ)) : Type 0 where
  pub few : length sums < 4294967296
  pub size : length sums ≡ count_of_points problem
  pub small : AreSmallSums sums

-- what it costs to move a value, and what it costs to tell an index
pub record AreBothPrices (moves tells : List (List (Option ℕ))) : Type 0 where
  pub moved : ArePrices moves
  pub told : ArePrices tells
