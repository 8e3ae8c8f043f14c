-- The deals of all hosts have one first item that breaks its identity, or none.
use Rattle.std.proofs.Common.{◌≡◌, ℕ, ◌<◌, List, ◌⊎◌, inl, inr, Option, Some, None, refl, sym, ap, ◌∙◌, arith}
use Rattle.std.specs.Prelude.{slice_get}
use Rattle.std.proofs.lemmas.Option.{same_Some}
use Rattle.vd_tape.specs.declared.deal_items.deal.Deal.{Deal}
use Rattle.vd_tape.specs.declared.deal_items.deal.DealKind.{DealKind}
use Rattle.vd_tape.specs.declared.deal_items.deal.DealKind.TheVariants.{Own, Mul, And, Pair}
use Rattle.vd_tape.specs.declared.deal_items.deal.BadItem.{BadItem}
use Rattle.vd_tape.specs.Validity.{IsBefore, IsConsistent, IsFirstBad, Meets, Place, place_of, rank, sides}
use Rattle.vd_cmd_files.specs.Outcomes.{IsJudged}

-- ---- one outcome

-- of two numbers one is less, or they are the same
three_ways : (a b : ℕ) → (a < b) ⊎ ((a ≡ b) ⊎ (b < a))
three_ways a b = grind arith

-- and so of numbers in turn
in_turn : (a b : ℕ) (X S Y : Type 0) → (a ≡ b → X ⊎ (S ⊎ Y)) → ((a < b) ⊎ ((a ≡ b) × X)) ⊎ (((a ≡ b) × S) ⊎ ((b < a) ⊎ ((b ≡ a) × Y)))
in_turn a b X S Y next = elim (three_ways a b) [
  | inl lt ↦ inl (inl lt)
  | inr same ↦ elim same [
    | inl e ↦ elim (next e) [
      | inl x ↦ inl (inr (e, x))
      | inr rest ↦ elim rest [ inl s ↦ inr (inl (e, s)) | inr y ↦ inr (inr (inr (sym e, y))) ]
    ]
    | inr gt ↦ inr (inr (inl gt))
  ]
]

abbrev Same : Place → Place → Type 0
Same x y = (x.0 ≡ y.0) × ((x.1 ≡ y.1) × ((x.2 ≡ y.2) × (x.3 ≡ y.3)))

ordered : (x y : Place) → IsBefore x y ⊎ (Same x y ⊎ IsBefore y x)
ordered x y = in_turn x.0 y.0 _ _ _ (λ e. in_turn x.1 y.1 _ _ _ (λ f. in_turn x.2 y.2 _ _ _ (λ g. three_ways x.3 y.3)))

same_rank : (a b : DealKind) → rank a ≡ rank b → a ≡ b
same_rank Own Own e = refl
same_rank Mul Mul e = refl
same_rank And And e = refl
same_rank Pair Pair e = refl
same_rank a b e = absurd (omega (arith, e))

module _ (deals : List Deal) where
  not_before : (x y : BadItem) → IsFirstBad deals x → IsFirstBad deals y → IsBefore (place_of x) (place_of y) → ⊥
  not_before x y a b before =
      let meets : Meets a.first a.second x.kind x.index = b.earlier x.first.0 x.second.0 a.first a.second a.order a.first_is a.second_is x.kind x.index before in
      a.differ (sym (ap (λ (s : ℕ × ℕ). s.0) a.sides_are) ∙ meets ∙ ap (λ (s : ℕ × ℕ). s.1) a.sides_are)

  same_items : (x y : BadItem) → IsFirstBad deals x → IsFirstBad deals y → Same (place_of x) (place_of y) → x ≡ y
  same_items x y a b e =
      let kinds : x.kind ≡ y.kind = same_rank x.kind y.kind e.1.1.0 in
      let first : a.first ≡ b.first = same_Some a.first b.first (sym a.first_is ∙ ap (slice_get deals) e.0 ∙ b.first_is) in
      let second : a.second ≡ b.second = same_Some a.second b.second (sym a.second_is ∙ ap (slice_get deals) e.1.0 ∙ b.second_is) in
      let both : sides a.first a.second x.kind x.index ≡ sides b.first b.second y.kind y.index = λ i. sides (first i) (second i) (kinds i) (e.1.1.1 i) in
      let numbers : (x.left, x.right) ≡ (y.left, y.right) = sym a.sides_are ∙ both ∙ b.sides_are in
      λ i. record { kind = kinds i; first = record { 0 = e.0 i }; second = record { 0 = e.1.0 i }; index = e.1.1.1 i; left = (numbers i).0; right = (numbers i).1 }

  bads_agree : (x y : BadItem) → IsFirstBad deals x → IsFirstBad deals y → x ≡ y
  bads_agree x y a b = elim (ordered (place_of x) (place_of y)) [
    | inl before ↦ absurd (not_before x y a b before)
    | inr rest ↦ elim rest [ inl same ↦ same_items x y a b same | inr behind ↦ absurd (not_before y x b a behind) ]
  ]

  consistent_or_bad : (x : BadItem) → IsConsistent deals → IsFirstBad deals x → ⊥
  consistent_or_bad x all a =
      let meets : Meets a.first a.second x.kind x.index = all x.first.0 x.second.0 a.first a.second a.order a.first_is a.second_is x.kind x.index in
      a.differ (sym (ap (λ (s : ℕ × ℕ). s.0) a.sides_are) ∙ meets ∙ ap (λ (s : ℕ × ℕ). s.1) a.sides_are)

  pub judged_once : (a b : Option BadItem) → IsJudged deals a → IsJudged deals b → a ≡ b
  judged_once None None e f = refl
  judged_once None (Some y) e f = absurd (consistent_or_bad y e f)
  judged_once (Some x) None e f = absurd (consistent_or_bad x f e)
  judged_once (Some x) (Some y) e f = ap (λ z. Some z) (bads_agree x y e f)
