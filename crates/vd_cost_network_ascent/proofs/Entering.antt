-- Whether a walk makes a choice.
use Rattle.std.proofs.Common.{◌≡◌, ℕ, ◌<◌, Bool, true, false, ◌&&◌, List, [], ◌∷◌, ◌++◌, length, refl, sym, ap, ◌∙◌, arith, inl, inr, ℤ, ◌≤ℤ◌, ◌<ℤ◌, int_le, T}
use Rattle.std.specs.Prelude.{nat_lt}
use Rattle.std.proofs.lemmas.Int.{ints}
use Rattle.std.proofs.lemmas.Bool.{and_from, cases_Bool, lt-ltb, true≢false}
use Rattle.vd_search_tree.specs.Trees.{Tree, is_within}
use Rattle.vd_cost_network_ascent.specs.Walking.{can_enter}

true_of : (b : Bool) → T b → b ≡ true
true_of true t = refl
true_of false t = absurd t

of_true : (b : Bool) → b ≡ true → T b
of_true true t = tt
of_true false t = absurd (true≢false (sym t))

and_false : (b : Bool) → false ≡ (b && false)
and_false true = refl
and_false false = refl

not_within : (a b : ℤ) → b <ℤ a → int_le a b ≡ false
not_within a b above = elim (cases_Bool (int_le a b)) [
  | inl test ↦ let low : a ≤ℤ b = record { le = of_true (int_le a b) test } in absurd (omega (arith, ints, low, above))
  | inr fails ↦ fails
]

module _ (tree : Tree) (most : ℤ) (prefix : List ℕ) (choice : ℕ) where
  pub can : length prefix < tree.slots → choice < tree.choices → tree.valid (prefix ++ choice ∷ []) ≡ true → tree.bound (prefix ++ choice ∷ []) ≤ℤ most → true ≡ can_enter tree most prefix choice
  can slot listed valid low =
      let first = nat_lt (length prefix) tree.slots in
      let second = nat_lt choice tree.choices in
      let within = is_within tree most (prefix ++ choice ∷ []) in
      let both = and_from (tree.valid (prefix ++ choice ∷ [])) (int_le (tree.bound (prefix ++ choice ∷ [])) most) valid (true_of (int_le (tree.bound (prefix ++ choice ∷ [])) most) low.le) in
      sym (and_from (first && second) within (and_from first second (lt-ltb (length prefix) tree.slots slot) (lt-ltb choice tree.choices listed)) both)

  shut : is_within tree most (prefix ++ choice ∷ []) ≡ false → false ≡ can_enter tree most prefix choice
  shut refused = and_false (nat_lt (length prefix) tree.slots && nat_lt choice tree.choices) ∙ ap (λ b. nat_lt (length prefix) tree.slots && nat_lt choice tree.choices && b) (sym refused)

  pub not_valid : tree.valid (prefix ++ choice ∷ []) ≡ false → false ≡ can_enter tree most prefix choice
  not_valid refused = shut (ap (λ b. b && int_le (tree.bound (prefix ++ choice ∷ [])) most) refused)

  pub beyond : most <ℤ tree.bound (prefix ++ choice ∷ []) → false ≡ can_enter tree most prefix choice
  beyond above = shut (ap (λ b. tree.valid (prefix ++ choice ∷ []) && b) (not_within (tree.bound (prefix ++ choice ∷ [])) most above) ∙ sym (and_false (tree.valid (prefix ++ choice ∷ []))))
