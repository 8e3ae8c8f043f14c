-- One more choice decides anew the points that its slot may change, and no others.
use Rattle.std.proofs.Common.{◌≡◌, ℕ, ◌-◌, ◌<◌, ◌≤◌, false, ◌&&◌, ◌||◌, Option, Some, None, List, [], ◌∷◌, length, refl, sym, ap, ap₂, ◌∙◌, arith, inl, inr, slice_get}
use Rattle.std.specs.Prelude.{is_some, nat_lt, ◌==◌, if◌then◌else◌}
use Rattle.std.specs.List.{list_all, list_any}
use Rattle.std.specs.Option.{option_map_or}
use Rattle.std.proofs.lemmas.Bool.{cond-true, cond-false, or_parts, lt-ltb, le-ltb}
use Rattle.vd_base.specs.declared.ids.HostId.{HostId}
use Rattle.vd_base.specs.declared.ids.SlotId.{SlotId}
use Rattle.vd_base.specs.HostSets.{same_host}
use Rattle.vd_space.specs.declared.problem.Problem.{Problem}
use Rattle.vd_space.specs.declared.problem.Guard.{Guard}
use Rattle.vd_space.specs.Validity.{holds_at}
use Rattle.vd_space.specs.Growth.{with_choice}
use Rattle.vd_space.proofs.Front.{same_item}
use Rattle.vd_space.specs.Points.{decided, off, on, switched}
use Rattle.vd_space.proofs.Front.{at_either}
use Rattle.vd_cost_network_prefix.specs.declared.made.SwitchTable.{SwitchTable}
use Rattle.vd_cost_network_prefix.specs.Reach.{AreDecidedBeside, may_change, may_turn, names_slot}
use Rattle.vd_cost_network_prefix.specs.States.{AreSwitchTables, as_states, guard_state, states_of, table_state}
use Rattle.vd_cost_network_prefix.proofs.Decided.{states_are}

-- whether the slot may change a slot, and a switch
change_slot : (problem : Problem) (tables : List SwitchTable) (slot point : ℕ) → point < length problem.slots → may_change problem tables slot point ≡ false → (point == slot) ≡ false
change_slot problem tables slot point low none =
    sym (cond-true (nat_lt point (length problem.slots)) (point == slot) (option_map_or (may_turn problem slot) (slice_get tables (point - length problem.slots)) false) (lt-ltb point (length problem.slots) low)) ∙ none

change_switch : (problem : Problem) (tables : List SwitchTable) (slot point : ℕ) → length problem.slots ≤ point → may_change problem tables slot point ≡ false
    → option_map_or (may_turn problem slot) (slice_get tables (point - length problem.slots)) false ≡ false
change_switch problem tables slot point high none =
    sym (cond-false (nat_lt point (length problem.slots)) (point == slot) (option_map_or (may_turn problem slot) (slice_get tables (point - length problem.slots)) false) (le-ltb point (length problem.slots) high)) ∙ none

module _ (problem : Problem) (prefix : List ℕ) (choice : ℕ) where
  same_holding : (h : HostId) (slots : List SlotId) → names_slot (length prefix) slots ≡ false
      → list_any (λ (s : SlotId). option_map_or (holds_at problem h) (slice_get (with_choice prefix choice) s.0) false) slots ≡ list_any (λ (s : SlotId). option_map_or (holds_at problem h) (slice_get prefix s.0) false) slots
  same_holding h [] other = refl
  same_holding h (s ∷ slots) other =
      let parts = or_parts (s.0 == length prefix) (names_slot (length prefix) slots) other in
      ap₂ (λ here rest. option_map_or (holds_at problem h) here false || rest) (sym (same_item problem prefix choice s.0 parts.0)) (same_holding h slots parts.1)

  same_deciding : (slots : List SlotId) → names_slot (length prefix) slots ≡ false
      → list_all (λ (s : SlotId). is_some (slice_get (with_choice prefix choice) s.0)) slots ≡ list_all (λ (s : SlotId). is_some (slice_get prefix s.0)) slots
  same_deciding [] other = refl
  same_deciding (s ∷ slots) other =
      let parts = or_parts (s.0 == length prefix) (names_slot (length prefix) slots) other in
      ap₂ (λ here rest. is_some here && rest) (sym (same_item problem prefix choice s.0 parts.0)) (same_deciding slots parts.1)

  same_guard : (table : SwitchTable) (item : Option Guard) → names_slot (length prefix) table.members ≡ false → option_map_or (λ (guard : Guard). names_slot (length prefix) guard.slots) item false ≡ false
      → option_map_or (guard_state problem (with_choice prefix choice) table) item None ≡ option_map_or (guard_state problem prefix table) item None
  same_guard table None members slots = refl
  same_guard table (Some guard) members slots =
      ap₂ (λ part all. if list_any (same_host table.host) guard.hosts || part then Some on else if all then Some off else None) (same_holding table.host guard.slots slots) (same_deciding table.members members)

  same_switch : (item : Option SwitchTable) → option_map_or (may_turn problem (length prefix)) item false ≡ false → option_map_or (table_state problem (with_choice prefix choice)) item None ≡ option_map_or (table_state problem prefix) item None
  same_switch None other = refl
  same_switch (Some table) other =
      let parts = or_parts (names_slot (length prefix) table.members) (option_map_or (λ (guard : Guard). names_slot (length prefix) guard.slots) (slice_get problem.guards table.guard) false) other in
      same_guard table (slice_get problem.guards table.guard) parts.0 parts.1

  module _ (tables : List SwitchTable) (are : AreSwitchTables problem tables) where
    -- whatever the slot may not change is decided alike with the choice and without it
    same_beside : (point : ℕ) → may_change problem tables (length prefix) point ≡ false → decided problem (with_choice prefix choice) point ≡ decided problem prefix point
    same_beside point none = elim (at_either problem (slice_get (with_choice prefix choice)) (switched problem (with_choice prefix choice)) None point) [
      | inl after ↦ elim (at_either problem (slice_get prefix) (switched problem prefix) None point) [
        | inl before ↦ after.1 ∙ sym (same_item problem prefix choice point (change_slot problem tables (length prefix) point after.0 none)) ∙ sym before.1
        | inr past ↦ let low = after.0 in let high = past.0 in absurd (omega (arith, low, high))
      ]
      | inr after ↦ elim (at_either problem (slice_get prefix) (switched problem prefix) None point) [
        | inl before ↦ let low = before.0 in let high = after.0 in absurd (omega (arith, low, high))
        | inr past ↦
            let number = point - length problem.slots in
            after.1 ∙ sym (are (with_choice prefix choice) number) ∙ same_switch (slice_get tables number) (change_switch problem tables (length prefix) point after.0 none) ∙ are prefix number ∙ sym past.1
      ]
    ]

    -- what stands there is right but for the slot, once the choice is made
    pub beside_after : (states : List (Option ℕ)) → states ≡ states_of problem prefix → AreDecidedBeside problem tables (with_choice prefix choice) (length prefix) states
    beside_after states written point none = ap (λ list. as_states list point) written ∙ ap (λ (f : ℕ → Option ℕ). f point) (states_are problem prefix) ∙ sym (same_beside point none)

    -- and once it is given back
    pub beside_before : (states : List (Option ℕ)) → states ≡ states_of problem (with_choice prefix choice) → AreDecidedBeside problem tables prefix (length prefix) states
    beside_before states written point none = ap (λ list. as_states list point) written ∙ ap (λ (f : ℕ → Option ℕ). f point) (states_are problem (with_choice prefix choice)) ∙ same_beside point none
