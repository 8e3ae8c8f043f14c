-- The terms of points, and the arcs between them. All amounts are in parts, 256 of which are a unit of cost.
use Rattle.std.specs.Prelude.{ℕ, ◌+◌, ◌&&◌, ◌||◌, ◌==◌, Bool, not, if◌then◌else◌, Option, Some, None, option_map, List, [], ◌∷◌, ◌++◌, map, length, ℤ, pos, ◌*ℤ◌}
use Rattle.std.specs.List.{list_all}
use Rattle.vd_base.specs.declared.ids.HostId.{HostId}
use Rattle.vd_base.specs.declared.ids.SlotId.{SlotId}
use Rattle.vd_space.specs.declared.problem.Problem.{Problem}
use Rattle.vd_space.specs.declared.problem.Index.{Index}
use Rattle.vd_space.specs.Validity.{all_hosts, holds_at, may_read, move_to_host}
use Rattle.vd_space.specs.Costs.{Pair, weigh, operation_value, pairs}
use Rattle.vd_space.specs.Bounds.{add, only_if, outputs_value}
use Rattle.vd_space.specs.Points.{Switch, at_point, members, off, switches}

abbrev pub parts : Option ℤ → Option ℤ
parts value = option_map (λ v. v *ℤ pos 256) value

-- ---- one point

-- each host of an array may read what is used as its index
abbrev pub index_readable : Problem → ℕ → ℕ → Index → Bool
index_readable problem slot p index = not (index.array.0 == slot) || list_all (λ h. not (holds_at problem h p) || may_read problem h index.index.0) (all_hosts problem)

-- a slot's operation and outputs, where its hosts may read its indexes if it is an array
abbrev pub slot_value : Problem → ℕ → ℕ → Option ℤ
slot_value problem p slot = only_if (list_all (index_readable problem slot p) problem.indexes) (parts (add (operation_value problem slot p) (outputs_value problem slot p problem.outputs)))

-- a switch is on only where its host may read the guard
abbrev pub switch_value : Problem → ℕ → Switch → Option ℤ
switch_value problem v switch = only_if (v == off || may_read problem switch.host switch.guard.slot.0) (Some (pos 0))

abbrev pub point_value : Problem → ℕ → ℕ → Option ℤ
point_value problem point v = at_point problem (slot_value problem v) (switch_value problem v) None point

-- ---- arcs: terms of two points

abbrev pub in_parts : Pair → Pair
in_parts pair = record { first = pair.first; second = pair.second; value = λ p q. parts (pair.value p q) }

-- the guard is told to the host where the switch is on
abbrev pub guard_arc : Problem → ℕ → Switch → Pair
guard_arc problem point switch = record {
  first = switch.guard.slot.0;
  second = point;
  value = λ p v. if v == off then Some (pos 0) else parts (weigh switch.guard.weight (move_to_host problem switch.host p));
}

-- where the switch is off no slot stands at a protocol that is kept at the host
abbrev pub member_arc : Problem → ℕ → HostId → SlotId → Pair
member_arc problem point h slot = record {
  first = slot.0;
  second = point;
  value = λ p v. if v == off && holds_at problem h p then None else Some (pos 0);
}

abbrev pub switch_arcs : Problem → ℕ → Switch → List Pair
switch_arcs problem point switch = guard_arc problem point switch ∷ map (member_arc problem point switch.host) (members problem switch)

-- of switches that have the points from this one on
abbrev pub arcs_from : Problem → ℕ → List Switch → List Pair
arcs_from problem point [] = []
arcs_from problem point (switch ∷ rest) = switch_arcs problem point switch ++ arcs_from problem (point + 1) rest

-- uses in program order, then indexes, then what belongs to the switches
abbrev pub arcs : Problem → List Pair
arcs problem = map in_parts (pairs problem) ++ arcs_from problem (length problem.slots) (switches problem)
