-- What a prefix of a valid list decides stays decided.
use Rattle.std.proofs.Common.{◌≡◌, ℕ, zero, suc, ◌-◌, ◌⊎◌, Bool, true, false, ◌&&◌, Option, Some, None, List, [], ◌∷◌, ◌++◌, filter, length, refl, sym, ap, ◌∙◌, subst, arith, inl, inr, slice_get}
use Rattle.std.specs.Prelude.{IsTrue, is_some, unwrap_or, if◌then◌else◌}
use Rattle.std.specs.List.{list_all, list_any}
use Rattle.std.specs.Option.{option_map_or}
use Rattle.std.proofs.lemmas.Bool.{true≢false, and_parts, and_from, or_cases, or_left, or_right, cases_Bool, cond-true, cond-false}
use Rattle.vd_base.specs.declared.ids.HostId.{HostId}
use Rattle.vd_base.specs.declared.ids.SlotId.{SlotId}
use Rattle.vd_base.specs.HostSets.{same_host}
use Rattle.vd_space.specs.declared.problem.Problem.{Problem}
use Rattle.vd_space.specs.declared.problem.Making.{Making}
use Rattle.vd_space.specs.Validity.{protocols, holds_at, can_stand, is_candidate, stand, takes_part, is_valid}
use Rattle.vd_space.proofs.Tests.{item_kept, all_passes}
use Rattle.vd_space.proofs.Kept.{parts_of, part_kept}
use Rattle.vd_space.proofs.Terms.{IsAt, is_listed}
use Rattle.vd_space.specs.Points.{Switch, switches, may_bring, members, switched, decided, on, off}
use Rattle.vd_space.proofs.Items.{held, any_in_range}
use Rattle.vd_space.proofs.Points.{at_either}

-- what stands in a valid list is a candidate
stands_at_candidate : (problem : Problem) (makings : List Making) (list : List ℕ) (slot p : ℕ) → IsTrue (stand problem makings list) → slice_get list slot ≡ Some p
    → IsTrue (option_map_or (λ making. can_stand problem making p) (slice_get makings slot) false)
stands_at_candidate problem makings [] slot p stands is = absurd (true≢false (sym (ap is_some is)))
stands_at_candidate problem [] (q ∷ list) slot p stands is = absurd (true≢false (sym stands))
stands_at_candidate problem (making ∷ makings) (q ∷ list) zero p stands is =
    let parts = and_parts (can_stand problem making q) (stand problem makings list) stands in
    subst (λ r. IsTrue (can_stand problem making r)) (ap (λ o. unwrap_or o q) is) parts.0
stands_at_candidate problem (making ∷ makings) (q ∷ list) (suc slot) p stands is =
    stands_at_candidate problem makings list slot p (and_parts (can_stand problem making q) (stand problem makings list) stands).1 is

valid_at : (problem : Problem) (list : List ℕ) → IsTrue (is_valid problem list) → (slot p : ℕ) → slice_get list slot ≡ Some p → IsAt problem list slot p
valid_at problem list valid slot p is = record { decided = is; candidate = stands_at_candidate problem problem.slots list slot p (parts_of problem list valid).stands is }

-- a slot that is kept at a host may bring it in
brings : (problem : Problem) (list : List ℕ) (h : HostId) (slot : SlotId) (p : ℕ) → IsAt problem list slot.0 p → IsTrue (holds_at problem h p) → IsTrue (may_bring problem h slot)
brings problem list h slot p at holds =
    let low = is_listed problem list slot.0 p at in
    any_in_range (λ q. is_candidate problem slot.0 q && holds_at problem h q) 0 (length (protocols problem)) p (omega arith) (omega (arith, low)) (and_from (is_candidate problem slot.0 p) (holds_at problem h p) at.candidate holds)

abbrev is_there : List ℕ → SlotId → Bool
is_there prefix slot = is_some (slice_get prefix slot.0)

abbrev is_held : Problem → List ℕ → HostId → SlotId → Bool
is_held problem prefix h slot = option_map_or (holds_at problem h) (slice_get prefix slot.0) false

module _ (problem : Problem) (prefix rest : List ℕ) (valid : IsTrue (is_valid problem (prefix ++ rest))) where
  stays_there : (slot : SlotId) → IsTrue (is_there prefix slot) → IsTrue (is_there (prefix ++ rest) slot)
  stays_there slot is = elim (item_kept prefix rest slot.0) [
    | inl missing ↦ absurd (true≢false (sym (ap is_some (sym missing) ∙ is)))
    | inr same ↦ ap is_some (sym same) ∙ is
  ]

  -- an item that is there is the same in the whole list
  was_held : (h : HostId) (slot : SlotId) → IsTrue (is_there prefix slot) → IsTrue (is_held problem (prefix ++ rest) h slot) → IsTrue (is_held problem prefix h slot)
  was_held h slot is holds = elim (item_kept prefix rest slot.0) [
    | inl missing ↦ absurd (true≢false (sym (ap is_some (sym missing) ∙ is)))
    | inr same ↦ subst (λ o. IsTrue (option_map_or (holds_at problem h) o false)) (sym same) holds
  ]

  held_brings : (h : HostId) (slot : SlotId) → IsTrue (is_held problem (prefix ++ rest) h slot) → IsTrue (may_bring problem h slot)
  held_brings h slot is =
      let at = held (holds_at problem h) (slice_get (prefix ++ rest) slot.0) is in
      brings problem (prefix ++ rest) h slot at.0 (valid_at problem (prefix ++ rest) valid slot.0 at.0 at.1) at.2

  -- where all that may bring the host in are decided, none brings it in later
  was_brought : (h : HostId) (slots : List SlotId) → IsTrue (list_all (is_there prefix) (filter (may_bring problem h) slots)) → IsTrue (list_any (is_held problem (prefix ++ rest) h) slots)
      → IsTrue (list_any (is_held problem prefix h) slots)
  was_brought h [] all any = absurd (true≢false (sym any))
  was_brought h (slot ∷ slots) all any = elim (cases_Bool (may_bring problem h slot)) [
    | inl may ↦
        let both = and_parts (is_there prefix slot) (list_all (is_there prefix) (filter (may_bring problem h) slots))
        (subst (λ list. IsTrue (list_all (is_there prefix) list)) (cond-true (may_bring problem h slot) (slot ∷ filter (may_bring problem h) slots) (filter (may_bring problem h) slots) may) all) in
        elim (or_cases (is_held problem (prefix ++ rest) h slot) (list_any (is_held problem (prefix ++ rest) h) slots) any) [
          | inl here ↦ or_left (is_held problem prefix h slot) (list_any (is_held problem prefix h) slots) (was_held h slot both.0 here)
          | inr there ↦ or_right (is_held problem prefix h slot) (list_any (is_held problem prefix h) slots) (was_brought h slots both.1 there)
        ]
    | inr never ↦
        let others = subst (λ list. IsTrue (list_all (is_there prefix) list)) (cond-false (may_bring problem h slot) (slot ∷ filter (may_bring problem h) slots) (filter (may_bring problem h) slots) never) all in
        elim (or_cases (is_held problem (prefix ++ rest) h slot) (list_any (is_held problem (prefix ++ rest) h) slots) any) [
          | inl here ↦ absurd (true≢false (sym (held_brings h slot here) ∙ never))
          | inr there ↦ or_right (is_held problem prefix h slot) (list_any (is_held problem prefix h) slots) (was_brought h slots others there)
        ]
  ]

  was_part : (w : Switch) → IsTrue (list_all (is_there prefix) (members problem w)) → IsTrue (takes_part problem (prefix ++ rest) w.guard w.host) → IsTrue (takes_part problem prefix w.guard w.host)
  was_part w all takes = elim (or_cases (list_any (same_host w.host) w.guard.hosts) (list_any (is_held problem (prefix ++ rest) w.host) w.guard.slots) takes) [
    | inl told ↦ or_left (list_any (same_host w.host) w.guard.hosts) (list_any (is_held problem prefix w.host) w.guard.slots) told
    | inr brought ↦ or_right (list_any (same_host w.host) w.guard.hosts) (list_any (is_held problem prefix w.host) w.guard.slots) (was_brought w.host w.guard.slots all brought)
  ]

  -- what a switch is, by whether its host takes part and whether all members are decided
  abbrev state : Bool → Bool → Option ℕ
  state takes all = if takes then Some on else if all then Some off else None

  same_state : (before later all ends : Bool) → (IsTrue before → IsTrue later) → (IsTrue all → IsTrue later → IsTrue before) → (IsTrue all → IsTrue ends) → (state before all ≡ None) ⊎ (state before all ≡ state later ends)
  same_state true true all ends up down goes = inr refl
  same_state true false all ends up down goes = absurd (true≢false (sym (up refl)))
  same_state false later false ends up down goes = inl refl
  same_state false true true ends up down goes = absurd (true≢false (sym (down refl refl)))
  same_state false false true true up down goes = inr refl
  same_state false false true false up down goes = absurd (true≢false (sym (goes refl)))

  switch_kept : (w : Switch) → (switched problem prefix w ≡ None) ⊎ (switched problem prefix w ≡ switched problem (prefix ++ rest) w)
  switch_kept w =
      same_state (takes_part problem prefix w.guard w.host) (takes_part problem (prefix ++ rest) w.guard w.host) (list_all (is_there prefix) (members problem w)) (list_all (is_there (prefix ++ rest)) (members problem w))
      (part_kept problem prefix rest w.guard w.host) (was_part w) (all_passes (is_there prefix) (is_there (prefix ++ rest)) stays_there (members problem w))

  item_switch_kept : (item : Option Switch) → (option_map_or (switched problem prefix) item None ≡ None) ⊎ (option_map_or (switched problem prefix) item None ≡ option_map_or (switched problem (prefix ++ rest)) item None)
  item_switch_kept None = inl refl
  item_switch_kept (Some w) = switch_kept w

  either_kept : {a b c d : Option ℕ} → a ≡ c → b ≡ d → (c ≡ None) ⊎ (c ≡ d) → (a ≡ None) ⊎ (a ≡ b)
  either_kept first second (inl missing) = inl (first ∙ missing)
  either_kept first second (inr same) = inr (first ∙ same ∙ sym second)

  -- a point that is decided is so in the whole list
  pub point_kept : (point : ℕ) → (decided problem prefix point ≡ None) ⊎ (decided problem prefix point ≡ decided problem (prefix ++ rest) point)
  point_kept point = elim (at_either problem (slice_get prefix) (switched problem prefix) None point) [
    | inl slot ↦ elim (at_either problem (slice_get (prefix ++ rest)) (switched problem (prefix ++ rest)) None point) [
      | inl whole ↦ either_kept slot.1 whole.1 (item_kept prefix rest point)
      | inr none ↦ let low = slot.0 in let high = none.0 in absurd (omega (arith, low, high))
    ]
    | inr behind ↦ elim (at_either problem (slice_get (prefix ++ rest)) (switched problem (prefix ++ rest)) None point) [
      | inl none ↦ let low = none.0 in let high = behind.0 in absurd (omega (arith, low, high))
      | inr whole ↦ either_kept behind.1 whole.1 (item_switch_kept (slice_get (switches problem) (point - length problem.slots)))
    ]
  ]
