-- What a choice may change: the points that a slot may decide, and the arcs that a point has.
use Rattle.std.specs.Prelude.{◌≡◌, ℕ, ◌-◌, ◌||◌, ◌==◌, nat_lt, if◌then◌else◌, Bool, false, Option, List, filter, length, slice_get, ℤ}
use Rattle.std.specs.List.{list_any, range_with_len}
use Rattle.std.specs.Option.{option_map_or}
use Rattle.vd_base.specs.declared.ids.SlotId.{SlotId}
use Rattle.vd_base.specs.declared.protocols.Proto.{Proto}
use Rattle.vd_space.specs.declared.problem.Problem.{Problem}
use Rattle.vd_space.specs.declared.problem.Guard.{Guard}
use Rattle.vd_space.specs.Validity.{protocols}
use Rattle.vd_space_prefix.specs.Naming.{numbers_from}
use Rattle.vd_space_prefix.specs.Transfers.{by_place}
use Rattle.vd_space.specs.Points.{decided}
use Rattle.vd_cost_network_prefix.specs.States.{AreSmallTables, AreSwitchTables, as_states, count_of_points, parts_by}
use Rattle.vd_cost_network_prefix.specs.declared.made.ArcTable.{ArcTable}
use Rattle.vd_cost_network_prefix.specs.declared.made.SwitchTable.{SwitchTable}
use Rattle.vd_cost_network_prefix.specs.declared.made.NetworkTables.{NetworkTables}
use Rattle.vd_cost_network_prefix.specs.declared.reach.Reach.{Reach}

abbrev pub names_slot : ℕ → List SlotId → Bool
names_slot slot slots = list_any (λ (s : SlotId). s.0 == slot) slots

-- the slot is a member of the switch, or in the branches of its guard
abbrev pub may_turn : Problem → ℕ → SwitchTable → Bool
may_turn problem slot table = names_slot slot table.members || option_map_or (λ (guard : Guard). names_slot slot guard.slots) (slice_get problem.guards table.guard) false

-- the point is the slot's own, or that of a switch that the slot may turn
abbrev pub may_change : Problem → List SwitchTable → ℕ → ℕ → Bool
may_change problem tables slot point =
    if nat_lt point (length problem.slots) then point == slot else option_map_or (may_turn problem slot) (slice_get tables (point - length problem.slots)) false

abbrev pub changed_by : Problem → NetworkTables → ℕ → List ℕ
changed_by problem tables slot = filter (may_change problem tables.switches slot) (range_with_len 0 (length tables.points))

abbrev pub has_end : ℕ → ArcTable → Bool
has_end point table = table.first == point || table.second == point

-- the arcs that have the point at an end, by number
abbrev pub arcs_at : List ArcTable → ℕ → List ℕ
arcs_at tables point = numbers_from (has_end point) 0 tables

-- by slot, and by point
pub record IsReach (problem : Problem) (tables : NetworkTables) (reach : Reach) : Type 0 where
  pub points : reach.points ≡ by_place (length problem.slots) (changed_by problem tables)
  pub arcs : reach.arcs ≡ by_place (length tables.points) (arcs_at tables.arcs)

-- each point that the slot may not change stands as the prefix decides it
abbrev pub AreDecidedBeside : Problem → List SwitchTable → List ℕ → ℕ → List (Option ℕ) → Type 0
AreDecidedBeside problem tables prefix slot states = (point : ℕ) → may_change problem tables slot point ≡ false → as_states states point ≡ decided problem prefix point

-- by what the points that a slot may change are decided anew: small tables with a row for each point, and what may change
pub record CanDecide (problem : Problem) (list : List Proto) (tables : NetworkTables) (reach : Reach) : Type 0 where
  pub all : list ≡ protocols problem
  pub switches : AreSwitchTables problem tables.switches
  pub small : AreSmallTables tables
  pub points : length tables.points ≡ count_of_points problem
  pub reached : IsReach problem tables reach

-- what is decided of each point, and what all points and arcs come to by that
pub record ComeTo (tables : NetworkTables) (states : List (Option ℕ)) (parts : ℤ) : Type 0 where
  pub size : length tables.points ≡ length states
  pub sum : parts ≡ parts_by tables (as_states states)
