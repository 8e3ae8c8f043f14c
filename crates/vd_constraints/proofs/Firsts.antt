-- The first item of a list that has not a property, and walks up to it.
use Rattle.std.proofs.Common.{◌≡◌, ℕ, zero, suc, ◌+◌, ◌<◌, Some, List, [], ◌∷◌, length, take, get_or, refl, sym, ap, ◌∙◌, subst, arith, inl, inr, ◌⊎◌}
use Rattle.std.specs.Prelude.{All}
use Rattle.std.proofs.lemmas.Bool.{cases_eq, cases_lt}
use Rattle.std.proofs.lemmas.List.{get_or-take, length-take}
use Rattle.std.proofs.lemmas.List.Elements.{All-nil, All-cons, All-more}
use Rattle.std.proofs.lemmas.Option.{slice_get-get_or, slice_get_within, get_or_from_slice_get}
use Rattle.vd_constraints.specs.Satisfies.{IsFirstWithout}

module _ {X : Type 0} (P : X → Type 0) (list : List X) where
  -- it is an item of the list
  pub item_has : (Q : X → Type 0) → All Q list → (at : ℕ) (first : IsFirstWithout P list at) → Q first.item
  item_has Q all at first = subst Q (get_or_from_slice_get list at first.item first.item first.there) (all at first.item (slice_get_within list at first.item first.there))

  -- no item without the property stands before it
  not_before : (early late : ℕ) → early < late → IsFirstWithout P list early → IsFirstWithout P list late → ⊥
  not_before early late less first second =
      let low : early < length list = slice_get_within list early first.item first.there in
      let long = length-take late list in
      first.fails (subst P (get_or-take late list early first.item less ∙ get_or_from_slice_get list early first.item first.item first.there) (second.before early first.item (omega arith)))

  -- where there is one, not all items have the property
  pub not_all : (at : ℕ) → IsFirstWithout P list at → All P list → ⊥
  not_all at first all = first.fails (item_has P all at first)

  -- there is at most one
  pub first_once : (at other : ℕ) → IsFirstWithout P list at → IsFirstWithout P list other → at ≡ other
  first_once at other first second = elim (cases_eq at other) [
    | inl same ↦ same
    | inr differs ↦ elim (cases_lt at other) [
      | inl less ↦ absurd (not_before at other less first second)
      | inr more ↦ absurd (not_before other at (omega arith) second first)
    ]
  ]

-- all items have a property, or there is a first that has not
module _ {X : Type 0} (P : X → Type 0) (decide : (x : X) → P x ⊎ (P x → ⊥)) where
  pub all_or_first : (list : List X) → All P list ⊎ ((at : ℕ) × IsFirstWithout P list at)
  all_or_first [] = inl (All-nil P)
  all_or_first (x ∷ list) = elim (decide x) [
    | inr fails ↦ inr (zero, record { item = x; there = refl; fails = fails; before = All-nil P })
    | inl has ↦ elim (all_or_first list) [
      | inl all ↦ inl (All-cons P x list has all)
      | inr found ↦
          let first = found.1 in
          inr (suc found.0, record { item = first.item; there = first.there; fails = first.fails; before = All-cons P x _ has first.before })
    ]
  ]

-- ---- the item that a walk reads
module _ {X : Type 0} (list read : List X) (same : read ≡ list) (at : ℕ) (item : X) (low : at < length read) (is : item ≡ get_or read at item) where
  here : item ≡ get_or list at item
  here = is ∙ ap (λ xs. get_or xs at item) same

  within : at < length list
  within = subst (λ xs. at < length xs) same low

  pub has_it : (P : X → Type 0) → All P list → P item
  has_it P all = subst P (sym here) (all at item within)

  pub one_more : (P : X → Type 0) → P item → All P (take at list) → All P (take (at + 1) list)
  one_more P has before = All-more P list at item within before (subst P here has)

  pub first_without : (P : X → Type 0) → (P item → ⊥) → All P (take at list) → IsFirstWithout P list at
  first_without P fails before = record { item = item; there = slice_get-get_or list at item within ∙ ap Some (sym here); fails = fails; before = before }
