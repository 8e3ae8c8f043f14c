-- Where no label is written, no place is added; for each operand two are.
use Rattle.std.proofs.Common.{◌≡◌, ℕ, zero, suc, ◌+◌, ◌<◌, ◌≤◌, true, ltb, get_or, List, [], ◌∷◌, ◌++◌, Option, None, drop, flat_map, length, slice_get, refl, sym, ap, ◌∙◌, add-one, append_assoc, arith}
use Rattle.std.proofs.lemmas.Bool.{ltb-true}
use Rattle.std.proofs.lemmas.List.{append-nil}
use Rattle.std.proofs.lemmas.Option.{slice_get_read, slice_get_past}
use Rattle.std.specs.Option.{option_map_or}
use Rattle.vd_base.specs.declared.ids.SlotId.{SlotId}
use Rattle.vd_core.specs.declared.normal.NormalForm.{NormalForm}
use Rattle.vd_core.specs.declared.normal.Slot as made
use Rattle.vd_diag_terminal.specs.FlowSteps.{label_offsets, written_offsets}

pub none_added : (before more : List ℕ) → more ≡ [] → before ≡ before ++ more
none_added before more none = sym (append-nil before) ∙ ap (λ xs. before ++ xs) (sym none)

-- what is read of the slots of a program, at a number
module _ (p : NormalForm) (x : SlotId) (slots : List made.Slot) (same : slots ≡ p.slots) (i : ℕ) (at : i ≡ x.0) where
  abbrev added : Option made.Slot → List ℕ
  added slot = option_map_or (λ (slot : made.Slot). label_offsets slot.offset slot.label) slot []

  read_here : written_offsets p x ≡ added (slice_get slots i)
  read_here = ap (λ k. added (slice_get p.slots k)) (sym at) ∙ ap (λ (xs : List made.Slot). added (slice_get xs i)) (sym same)

  -- there is no such slot, or no label is written there
  pub no_slot : length slots ≤ i → written_offsets p x ≡ []
  no_slot past = read_here ∙ ap added (slice_get_past slots i past)

  pub no_label : (slot : made.Slot) → true ≡ ltb i (length slots) → slot ≡ get_or slots i slot → slot.label ≡ None → written_offsets p x ≡ []
  no_label slot low read none = read_here ∙ ap added (slice_get_read slots (length slots) i slot refl (ltb-true i (length slots) (sym low)) read) ∙ ap (label_offsets slot.offset) none

-- for each operand that is left the same places are added
behind : {A : Type 0} (places : List ℕ) (xs : List A) (i : ℕ) → i < length xs → flat_map (λ (x : A). places) (drop i xs) ≡ places ++ flat_map (λ (x : A). places) (drop (suc i) xs)
behind places [] i low = absurd (omega arith)
behind places (x ∷ xs) zero low = refl
behind places (x ∷ xs) (suc i) low = behind places xs i (omega arith)

pub one_more : {A : Type 0} (places before now whole : List ℕ) (xs : List A) (i : ℕ) → i < length xs → now ≡ before ++ places → before ++ flat_map (λ (x : A). places) (drop i xs) ≡ whole → now ++ flat_map (λ (x : A). places) (drop (i + 1) xs) ≡ whole
one_more {A} places before now whole xs i low added left =
    let more : List ℕ = flat_map (λ (x : A). places) (drop (i + 1) xs) in
    let next : flat_map (λ (x : A). places) (drop i xs) ≡ places ++ more = behind places xs i low ∙ ap (λ k. places ++ flat_map (λ (x : A). places) (drop k xs)) (sym (add-one i)) in
    ap (λ (front : List ℕ). front ++ more) added ∙ append_assoc before places more ∙ ap (λ (rest : List ℕ). before ++ rest) (sym next) ∙ left
