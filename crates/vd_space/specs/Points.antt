-- Points: the slots, and behind them a switch for each If and host, which is on where the host takes part.
use Rattle.std.specs.Prelude.{ℕ, ◌+◌, ◌-◌, ◌&&◌, Bool, false, nat_lt, ◌==◌, if◌then◌else◌, Option, Some, None, is_some, List, map, filter, flat_map, length, slice_get, ℤ}
use Rattle.std.specs.List.{list_all, list_any, range_with_len}
use Rattle.std.specs.Option.{option_map_or}
use Rattle.vd_base.specs.declared.ids.HostId.{HostId}
use Rattle.vd_base.specs.declared.ids.SlotId.{SlotId}
use Rattle.vd_space.specs.declared.problem.Problem.{Problem}
use Rattle.vd_space.specs.declared.problem.Guard.{Guard}
use Rattle.vd_space.specs.Validity.{protocols, all_hosts, holds_at, is_candidate, takes_part}
use Rattle.vd_space.specs.Bounds.{least_below, only_if}

-- The switch of an If and a host.
pub record Switch : Type 0 where
  pub guard : Guard
  pub host : HostId

abbrev pub switch_of : Guard → HostId → Switch
switch_of guard h = record { guard = guard; host = h }

-- by If in program order, and then by host
abbrev pub switches : Problem → List Switch
switches problem = flat_map (λ guard. map (switch_of guard) (all_hosts problem)) problem.guards

-- ---- points

abbrev pub points : Problem → List ℕ
points problem = range_with_len 0 (length problem.slots + length (switches problem))

-- of a slot, or else of the switch that stands so far behind the slots
abbrev pub at_point : {X : Type 0} → Problem → (ℕ → X) → (Switch → X) → X → ℕ → X
at_point problem slot switch none point =
    if nat_lt point (length problem.slots) then slot point else option_map_or switch (slice_get (switches problem) (point - length problem.slots)) none

-- what a slot stands at is a protocol of the list, and a switch is off or on
abbrev pub off : ℕ
off = 0

abbrev pub on : ℕ
on = 1

abbrev pub is_setting : Problem → ℕ → ℕ → Bool
is_setting problem point v = at_point problem (λ slot. is_candidate problem slot v) (λ switch. nat_lt v 2) false point

abbrev pub most_settings : Problem → ℕ
most_settings problem = length (protocols problem) + 2

-- ---- what a prefix decides

-- a slot that may bring a host in, since it has a candidate that is kept there
abbrev pub may_bring : Problem → HostId → SlotId → Bool
may_bring problem h slot = list_any (λ p. is_candidate problem slot.0 p && holds_at problem h p) (range_with_len 0 (length (protocols problem)))

-- those of the If's slots that may bring the host in
abbrev pub members : Problem → Switch → List SlotId
members problem switch = filter (may_bring problem switch.host) switch.guard.slots

-- on where the host is known to take part, and off where it is not and all members are decided
abbrev pub switched : Problem → List ℕ → Switch → Option ℕ
switched problem prefix switch =
    if takes_part problem prefix switch.guard switch.host then Some on
    else if list_all (λ slot. is_some (slice_get prefix slot.0)) (members problem switch) then Some off
    else None

abbrev pub decided : Problem → List ℕ → ℕ → Option ℕ
decided problem prefix point = at_point problem (slice_get prefix) (switched problem prefix) None point

-- ---- the least over what points may be at

-- what is decided of each point
abbrev pub States : Type 0
States = ℕ → Option ℕ

-- the one setting where the point is decided, else all of them
abbrev pub may_be : Problem → States → ℕ → ℕ → Bool
may_be problem states point v = option_map_or (λ w. w == v) (states point) (is_setting problem point v)

abbrev pub least_over : Problem → States → ℕ → (ℕ → Option ℤ) → Option ℤ
least_over problem states point value = least_below (most_settings problem) (λ v. only_if (may_be problem states point v) (value v))
