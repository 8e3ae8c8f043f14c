-- What is decided of points, and what points and arcs cost by that, read off tables.
use Rattle.std.specs.Prelude.{◌≡◌, ℕ, ◌+◌, ◌<◌, Option, Some, None, IfSome, is_some, unwrap_or, if◌then◌else◌, List, [], length, slice_get, slice_index_or, ℤ, pos, ◌+ℤ◌}
use Rattle.std.specs.List.{list_all, range_with_len}
use Rattle.std.specs.Option.{option_map_or}
use Rattle.vd_search_tree.specs.declared.shift.Shift.{Shift}
use Rattle.vd_space.specs.declared.problem.Problem.{Problem}
use Rattle.vd_space.specs.declared.problem.Guard.{Guard}
use Rattle.vd_space.specs.Validity.{protocols, takes_part}
use Rattle.vd_space.specs.Costs.{Pair, total}
use Rattle.vd_space_prefix.specs.Transfers.{IsWithin, by_place}
use Rattle.vd_space.specs.Points.{States, at_point, decided, off, on, switched, switches}
use Rattle.vd_space.specs.Arcs.{arcs}
use Rattle.vd_space.specs.Network.{least_arc, least_point, network_one, network_pairs, no_parts_left}
use Rattle.vd_cost_network_prefix.specs.declared.made.PointTable.{PointTable}
use Rattle.vd_cost_network_prefix.specs.declared.made.ArcTable.{ArcTable}
use Rattle.vd_cost_network_prefix.specs.declared.made.SwitchTable.{SwitchTable}
use Rattle.vd_cost_network_prefix.specs.declared.made.NetworkTables.{NetworkTables}

-- ---- states

abbrev pub count_of_points : Problem → ℕ
count_of_points problem = length problem.slots + length (switches problem)

-- what a prefix decides, by point
abbrev pub states_of : Problem → List ℕ → List (Option ℕ)
states_of problem prefix = by_place (count_of_points problem) (decided problem prefix)

abbrev pub as_states : List (Option ℕ) → States
as_states states point = slice_index_or states point None

-- the state of a switch of a guard, by its table
abbrev pub guard_state : Problem → List ℕ → SwitchTable → Guard → Option ℕ
guard_state problem prefix table guard =
    if takes_part problem prefix guard table.host then Some on
    else if list_all (λ slot. is_some (slice_get prefix slot.0)) table.members then Some off
    else None

abbrev pub table_state : Problem → List ℕ → SwitchTable → Option ℕ
table_state problem prefix table = option_map_or (guard_state problem prefix table) (slice_get problem.guards table.guard) None

-- ---- costs by states

abbrev pub point_at : PointTable → Option ℕ → ℤ
point_at table state = option_map_or (λ v. slice_index_or table.costs v (pos 0)) state table.free

abbrev pub arc_at : ArcTable → Option ℕ → Option ℕ → ℤ
arc_at table None None = table.both
arc_at table (Some v) None = slice_index_or table.rows v (pos 0)
arc_at table None (Some w) = slice_index_or table.columns w (pos 0)
arc_at table (Some v) (Some w) = unwrap_or (slice_index_or (slice_index_or table.cells v []) w None) no_parts_left

-- of the point with that number, and of the arc
abbrev pub point_part : List PointTable → States → ℕ → ℤ
point_part tables states k = option_map_or (λ table. point_at table (states k)) (slice_get tables k) (pos 0)

abbrev pub arc_part : List ArcTable → States → ℕ → ℤ
arc_part tables states k = option_map_or (λ table. arc_at table (states table.first) (states table.second)) (slice_get tables k) (pos 0)

-- of all together
abbrev pub parts_by : NetworkTables → States → ℤ
parts_by tables states =
    total (point_part tables.points states) (range_with_len 0 (length tables.points)) +ℤ total (arc_part tables.arcs states) (range_with_len 0 (length tables.arcs))

-- ---- what tables are for

-- how many settings a point has
abbrev pub settings : Problem → ℕ → ℕ
settings problem point = at_point problem (λ slot. length (protocols problem)) (λ switch. 2) 0 point

-- each point is at a setting that there is, or is not decided
abbrev pub AreSettings : Problem → States → Type 0
AreSettings problem states = (point v : ℕ) → states point ≡ Some v → v < settings problem point

-- by point: under all states the table gives the least of its term
pub record ArePointTables (problem : Problem) (shifts : List Shift) (tables : List PointTable) : Type 0 where
  pub size : length tables ≡ count_of_points problem
  pub least : (states : States) → AreSettings problem states → (point : ℕ) → point < count_of_points problem → point_part tables states point ≡ least_point problem states (network_one problem shifts point)

-- by number: the same of arcs
pub record AreArcTables (problem : Problem) (shifts : List Shift) (tables : List ArcTable) : Type 0 where
  pub size : length tables ≡ length (arcs problem)
  pub least : (states : States) → AreSettings problem states → (number : ℕ) (arc : Pair) → slice_get (network_pairs shifts 0 (arcs problem)) number ≡ Some arc → arc_part tables states number ≡ least_arc problem states arc

-- by switch: under each prefix the table gives its state
abbrev pub AreSwitchTables : Problem → List SwitchTable → Type 0
AreSwitchTables problem tables =
    (prefix : List ℕ) (number : ℕ) → option_map_or (table_state problem prefix) (slice_get tables number) None ≡ option_map_or (switched problem prefix) (slice_get (switches problem) number) None

-- ---- small numbers

-- 2^50: a term is less than 2^34, or 10^9 units with nothing left, and shifts come to less than 2^49
pub record IsSmallPoint (table : PointTable) : Type 0 where
  pub costs : (v : ℕ) → IsWithin 1125899906842624 (slice_index_or table.costs v (pos 0))
  pub free : IsWithin 1125899906842624 table.free

pub record IsSmallArc (table : ArcTable) : Type 0 where
  pub cells : (v w : ℕ) → IsWithin 1125899906842624 (unwrap_or (slice_index_or (slice_index_or table.cells v []) w None) no_parts_left)
  pub rows : (v : ℕ) → IsWithin 1125899906842624 (slice_index_or table.rows v (pos 0))
  pub columns : (w : ℕ) → IsWithin 1125899906842624 (slice_index_or table.columns w (pos 0))
  pub both : IsWithin 1125899906842624 table.both

abbrev pub AreSmallPoints : List PointTable → Type 0
AreSmallPoints tables = (number : ℕ) → IfSome (slice_get tables number) IsSmallPoint

abbrev pub AreSmallArcs : List ArcTable → Type 0
AreSmallArcs tables = (number : ℕ) → IfSome (slice_get tables number) IsSmallArc

-- and they are not more than a machine can have
pub record AreSmallTables (tables : NetworkTables) : Type 0 where
  pub points : AreSmallPoints tables.points
  pub arcs : AreSmallArcs tables.arcs
  pub few_points : length tables.points < 18446744073709551616
  pub few_arcs : length tables.arcs < 18446744073709551616
