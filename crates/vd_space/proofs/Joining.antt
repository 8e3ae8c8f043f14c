-- Which hosts one more choice brings into the branches of a guard, and which of them must be told it then.
use Rattle.std.proofs.Common.{◌≡◌, ℕ, zero, suc, Bool, true, false, ◌&&◌, ◌||◌, not, Option, Some, None, List, [], ◌∷◌, ◌++◌, length, refl, sym, ap, ap₂, ◌∙◌, subst, inl, inr, slice_get}
use Rattle.std.specs.Prelude.{IsTrue, ◌==◌}
use Rattle.std.specs.List.{list_all, list_any}
use Rattle.std.specs.Option.{option_map_or}
use Rattle.std.proofs.lemmas.Bool.{cases_Bool, and_parts, or_parts, eqb-true}
use Rattle.vd_base.specs.declared.ids.HostId.{HostId}
use Rattle.vd_base.specs.declared.ids.SlotId.{SlotId}
use Rattle.vd_base.specs.HostSets.{same_host}
use Rattle.vd_space.specs.declared.problem.Problem.{Problem}
use Rattle.vd_space.specs.declared.problem.Guard.{Guard}
use Rattle.vd_space.specs.Validity.{all_hosts, holder_told, holds_at, is_told, takes_part, guard_told, is_valid}
use Rattle.vd_space.specs.Growth.{guard_names, with_choice}
use Rattle.vd_space.proofs.Growth.{same_item, same_told}

-- ---- items
item_past : (prefix : List ℕ) → slice_get prefix (length prefix) ≡ None
item_past [] = refl
item_past (p ∷ prefix) = item_past prefix

item_last : (prefix : List ℕ) (choice : ℕ) → slice_get (prefix ++ choice ∷ []) (length prefix) ≡ Some choice
item_last [] choice = refl
item_last (p ∷ prefix) choice = item_last prefix choice

-- ---- tests
decided_here : (holds rest member : Bool) → (holds || (rest || (member && holds))) ≡ ((false || rest) || ((true || member) && holds))
decided_here true true member = refl
decided_here true false member = refl
decided_here false true member = refl
decided_here false false true = refl
decided_here false false false = refl

decided_before : (here rest member holds : Bool) → (here || (rest || (member && holds))) ≡ ((here || rest) || ((false || member) && holds))
decided_before true rest member holds = refl
decided_before false rest member holds = refl

brought : (told before holds : Bool) → (told || (before || (true && holds))) ≡ ((told || before) || holds)
brought true before holds = refl
brought false true holds = refl
brought false false true = refl
brought false false false = refl

told_still : (before holds told : Bool) → IsTrue (not before || told) → (not (before || holds) || told) ≡ (not holds || told)
told_still true true told asked = refl
told_still true false told asked = asked
told_still false holds told asked = refl

module _ (problem : Problem) (prefix : List ℕ) (choice : ℕ) where
  holding_grows : (h : HostId) (slots : List SlotId) → list_any (λ (s : SlotId). option_map_or (holds_at problem h) (slice_get (with_choice prefix choice) s.0) false) slots
      ≡ (list_any (λ (s : SlotId). option_map_or (holds_at problem h) (slice_get prefix s.0) false) slots || (list_any (λ (s : SlotId). s.0 == length prefix) slots && holds_at problem h choice))
  holding_grows h [] = refl
  holding_grows h (s ∷ slots) =
      let before = list_any (λ (s : SlotId). option_map_or (holds_at problem h) (slice_get prefix s.0) false) slots in
      let member = list_any (λ (s : SlotId). s.0 == length prefix) slots in
      let holds = holds_at problem h choice in
      elim (cases_Bool (s.0 == length prefix)) [
        | inl named ↦
            let at = eqb-true s.0 (length prefix) named in
            ap₂ (λ item rest. option_map_or (holds_at problem h) item false || rest) (ap (slice_get (with_choice prefix choice)) at ∙ item_last prefix choice) (holding_grows h slots)
            ∙ decided_here holds before member
            ∙ ap₂ (λ item test. (option_map_or (holds_at problem h) item false || before) || ((test || member) && holds)) (sym (ap (slice_get prefix) at ∙ item_past prefix)) (sym named)
        | inr other ↦
            ap₂ (λ item rest. option_map_or (holds_at problem h) item false || rest) (sym (same_item problem prefix choice s.0 other)) (holding_grows h slots)
            ∙ decided_before (option_map_or (holds_at problem h) (slice_get prefix s.0) false) before member holds
            ∙ ap (λ test. (option_map_or (holds_at problem h) (slice_get prefix s.0) false || before) || ((test || member) && holds)) (sym other)
      ]

  module _ (guard : Guard) (named : IsTrue (guard_names (length prefix) guard)) (other : (guard.slot.0 == length prefix) ≡ false) where
    is_member : IsTrue (list_any (λ (s : SlotId). s.0 == length prefix) guard.slots)
    is_member = ap (λ test. test || list_any (λ (s : SlotId). s.0 == length prefix) guard.slots) (sym other) ∙ named

    -- where the slot is not the guard's own, its host takes part besides those that did
    pub part_grows : (h : HostId) → takes_part problem (with_choice prefix choice) guard h ≡ (takes_part problem prefix guard h || holds_at problem h choice)
    part_grows h =
        ap (λ rest. list_any (same_host h) guard.hosts || rest) (holding_grows h guard.slots)
        ∙ ap (λ test. list_any (same_host h) guard.hosts || (list_any (λ (s : SlotId). option_map_or (holds_at problem h) (slice_get prefix s.0) false) guard.slots || (test && holds_at problem h choice))) is_member
        ∙ brought (list_any (same_host h) guard.hosts) (list_any (λ (s : SlotId). option_map_or (holds_at problem h) (slice_get prefix s.0) false) guard.slots) (holds_at problem h choice)

    each_told : (hosts : List HostId) → IsTrue (list_all (λ h. not (takes_part problem prefix guard h) || is_told problem prefix h guard.slot) hosts)
        → list_all (λ h. not (takes_part problem (with_choice prefix choice) guard h) || is_told problem (with_choice prefix choice) h guard.slot) hosts
        ≡ list_all (holder_told problem (with_choice prefix choice) guard.slot choice) hosts
    each_told [] told = refl
    each_told (h ∷ hosts) told =
        let parts = and_parts (not (takes_part problem prefix guard h) || is_told problem prefix h guard.slot) (list_all (λ h. not (takes_part problem prefix guard h) || is_told problem prefix h guard.slot) hosts) told in
        let same = same_told problem prefix choice h guard.slot other in
        ap₂ (λ here rest. here && rest)
        (ap (λ part. not part || is_told problem (with_choice prefix choice) h guard.slot) (part_grows h)
        ∙ told_still (takes_part problem prefix guard h) (holds_at problem h choice) (is_told problem (with_choice prefix choice) h guard.slot) (subst (λ b. IsTrue (not (takes_part problem prefix guard h) || b)) same parts.0))
        (each_told hosts parts.1)

    -- so of a guard that was told, the hosts of the choice alone must be asked
    pub guard_told_grows : IsTrue (guard_told problem prefix guard) → guard_told problem (with_choice prefix choice) guard ≡ list_all (holder_told problem (with_choice prefix choice) guard.slot choice) (all_hosts problem)
    guard_told_grows told = each_told (all_hosts problem) told
