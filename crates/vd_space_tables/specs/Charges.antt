-- What depends on one slot alone, by place.
use Rattle.std.specs.Prelude.{◌≡◌, ℕ, ◌<◌, Bool, Option, None, unwrap_or, List, [], map, length, slice_index_or, ℤ, pos}
use Rattle.vd_base.specs.declared.ids.HostId.{HostId}
use Rattle.vd_base.specs.HostSets.{host}
use Rattle.vd_space.specs.declared.problem.Problem.{Problem}
use Rattle.vd_space.specs.declared.problem.Guard.{Guard}
use Rattle.vd_search_tree.specs.declared.shift.Shift.{Shift}
use Rattle.vd_space.specs.Validity.{protocols, is_candidate, move_to_host}
use Rattle.vd_space.specs.Costs.{One, weigh, operation_term, output_term, guard_term}
use Rattle.vd_space.specs.Bounds.{nothing_left, shifted_one}
use Rattle.vd_space.specs.Growth.{least_free}
use Rattle.vd_space_prefix.specs.declared.guards.Telling.{Telling}
use Rattle.vd_space_prefix.specs.Transfers.{IsWithin, by_place, least_where}
use Rattle.vd_space_tables.specs.declared.charges.Charge.{Charge}
use Rattle.vd_space_tables.specs.Values.{merged_value}

-- of values by place, where the slot may stand at the places that pass
abbrev pub charge_from : ℕ → List (Option ℤ) → List Bool → Charge
charge_from slot values tests = record {
  slot = slot;
  costs = map (λ value. unwrap_or value nothing_left) values;
  free = unwrap_or (least_where tests (λ p. slice_index_or values p None)) nothing_left;
}

-- under shifts that put so much on slots, by slot and place
abbrev pub merged_charge_of : Problem → ℕ → List (List Bool) → List (List ℤ) → ℕ → Charge
merged_charge_of problem places candidates sums slot =
    charge_from slot (by_place places (merged_value problem slot (slice_index_or sums slot []))) (slice_index_or candidates slot [])

-- by slot, which places of the list are candidates
pub record AreCandidates (problem : Problem) (candidates : List (List Bool)) : Type 0 where
  pub size : length candidates ≡ length problem.slots
  pub rows : (slot : ℕ) → slot < length problem.slots
      → slice_index_or candidates slot [] ≡ by_place (length (protocols problem)) (is_candidate problem slot)

-- of a term of a problem
abbrev pub charge_of : Problem → One → Charge
charge_of problem one = record {
  slot = one.slot;
  costs = by_place (length (protocols problem)) (λ p. unwrap_or (one.value p) nothing_left);
  free = unwrap_or (least_free problem one.slot one.value) nothing_left;
}

-- a slot's value that is told so often to a host
abbrev pub told_term : Problem → ℕ → ℕ → HostId → One
told_term problem slot weight h = record { slot = slot; value = λ p. weigh weight (move_to_host problem h p) }

-- the charges of operations, by slot, and of outputs
abbrev pub operations_of : Problem → List Charge
operations_of problem = by_place (length problem.slots) (λ slot. charge_of problem (operation_term problem slot))

abbrev pub outputs_of : Problem → List Charge
outputs_of problem = map (λ o. charge_of problem (output_term problem o)) problem.outputs

-- of operations and outputs together, under shifts
abbrev pub merged_of : Problem → List Shift → List Charge
merged_of problem shifts = by_place (length problem.slots) (λ slot. charge_of problem (shifted_one problem shifts slot))

-- small numbers
pub record IsCharge (most : ℕ) (charge : Charge) : Type 0 where
  pub costs : (p : ℕ) → IsWithin most (slice_index_or charge.costs p (pos 0))
  pub free : IsWithin most charge.free

-- ---- tellings of guards

abbrev pub told_charge_of : Problem → Guard → ℕ → Charge
told_charge_of problem guard h = charge_of problem (guard_term problem guard (host h))

abbrev pub telling_of : Problem → Guard → Telling
telling_of problem guard = record {
  slot = guard.slot.0;
  free = by_place (length problem.hosts) (λ h. (told_charge_of problem guard h).free);
  costs = by_place (length problem.hosts) (λ h. (told_charge_of problem guard h).costs);
}
