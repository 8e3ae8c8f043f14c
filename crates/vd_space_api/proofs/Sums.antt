-- What the shifts that a step makes put on a term, and take from it.
use Rattle.std.proofs.Common.{◌≡◌, ℕ, zero, suc, ◌<◌, ◌≤◌, Bool, true, false, cond, ◌&&◌, Some, List, get_or, refl, sym, ap, ◌∙◌, arith, ℤ, pos, neg_ℤ, inl, inr, slice_get}
use Rattle.std.specs.Prelude.{◌==◌}
use Rattle.std.specs.Option.{option_map_or}
use Rattle.std.proofs.lemmas.Int.{ints}
use Rattle.std.proofs.lemmas.Bool.{cases_eq, cond-true, cond-false, eq-eqb, ne_eqb}
use Rattle.vd_search_tree.specs.declared.shift.Shift.{Shift}
use Rattle.vd_space.specs.declared.problem.Problem.{Problem}
use Rattle.vd_space.specs.declared.problem.Use.{Use}
use Rattle.vd_space.specs.Costs.{total}
use Rattle.vd_space.specs.Bounds.{signed, side_of, slot_shift, use_shift}
use Rattle.vd_space.specs.Usual.{shift_to}
use Rattle.vd_space.proofs.Front.{total_append}
use Rattle.vd_space_api.specs.Ledger.{one_shift, made}

abbrev pub amount_of : Bool → ℕ → ℤ
amount_of add amount = cond add (pos amount) (neg_ℤ (pos amount))

none_of : (add test : Bool) → cond test (amount_of add 0) (pos 0) ≡ pos 0
none_of true true = refl
none_of true false = refl
none_of false true = refl
none_of false false = refl

both_tests : (b c : Bool) (z : ℤ) → c ≡ true → cond (b && c) z (pos 0) ≡ cond b z (pos 0)
both_tests true true z is = refl
both_tests true false z is = refl_from is
  where
    refl_from : false ≡ true → cond false z (pos 0) ≡ cond true z (pos 0)
    refl_from h = cc
both_tests false c z is = refl

no_test : (b c : Bool) (z : ℤ) → c ≡ false → cond (b && c) z (pos 0) ≡ pos 0
no_test true true z is = flip is
  where
    flip : true ≡ false → cond true z (pos 0) ≡ pos 0
    flip h = cc
no_test true false z is = refl
no_test false c z is = refl

-- a part that looks at the place p alone, where the test passes
module _ (F : Shift → ℤ) (at side : ℕ) (add test : Bool) (p : ℕ) (is : (q amount : ℕ) → F (shift_to at side q add amount) ≡ cond (test && (q == p)) (amount_of add amount) (pos 0)) where
  one_total : (q amount : ℕ) → total F (one_shift at side add q amount) ≡ cond (test && (q == p)) (amount_of add amount) (pos 0)
  one_total q zero = sym (none_of add (test && (q == p)))
  one_total q (suc n) = let here = is q (suc n) in omega (arith, ints, here)

  past_total : (amounts : List ℕ) (n : ℕ) → n ≤ p → total F (made at side add amounts n) ≡ pos 0
  past_total amounts zero past = refl
  past_total amounts (suc n) past =
      let split = total_append F (made at side add amounts n) (one_shift at side add n (get_or amounts n 0)) in
      let front = past_total amounts n (omega arith) in
      let last = one_total n (get_or amounts n 0) ∙ no_test test (n == p) (amount_of add (get_or amounts n 0)) (ne_eqb n p (λ same. absurd (omega (arith, same)))) in
      omega (arith, ints, split, front, last)

  at_total : (amounts : List ℕ) (n : ℕ) → p < n → total F (made at side add amounts n) ≡ cond test (amount_of add (get_or amounts p 0)) (pos 0)
  at_total amounts zero low = absurd (omega arith)
  at_total amounts (suc n) low =
      let split = total_append F (made at side add amounts n) (one_shift at side add n (get_or amounts n 0)) in
      elim (cases_eq n p) [
        | inl same ↦
            let front = past_total amounts n (omega (arith, same)) in
            let last = one_total n (get_or amounts n 0) ∙ both_tests test (n == p) (amount_of add (get_or amounts n 0)) (eq-eqb n p same) in
            let moved : cond test (amount_of add (get_or amounts n 0)) (pos 0) ≡ cond test (amount_of add (get_or amounts p 0)) (pos 0) = ap (λ k. cond test (amount_of add (get_or amounts k 0)) (pos 0)) same in
            omega (arith, ints, split, front, last, moved)
        | inr other ↦
            let front = at_total amounts n (omega (arith, other)) in
            let last = one_total n (get_or amounts n 0) ∙ no_test test (n == p) (amount_of add (get_or amounts n 0)) (ne_eqb n p other) in
            omega (arith, ints, split, front, last)
      ]

-- ---- on the term of a slot

module _ (problem : Problem) (at : ℕ) (u : Use) (found : slice_get problem.uses at ≡ Some u) (side : ℕ) (add : Bool) (slot p : ℕ) where
  slot_part : (q amount : ℕ) → slot_shift problem slot p (shift_to at side q add amount) ≡ cond ((side_of u side == slot) && (q == p)) (amount_of add amount) (pos 0)
  slot_part q amount = ap (λ item. option_map_or (λ (v : Use). cond ((side_of v side == slot) && (q == p)) (signed (shift_to at side q add amount)) (pos 0)) item (pos 0)) found

  pub slot_past : (amounts : List ℕ) (n : ℕ) → n ≤ p → total (slot_shift problem slot p) (made at side add amounts n) ≡ pos 0
  slot_past amounts n past = past_total (slot_shift problem slot p) at side add (side_of u side == slot) p slot_part amounts n past

  pub slot_at : (amounts : List ℕ) (n : ℕ) → p < n → side_of u side ≡ slot → total (slot_shift problem slot p) (made at side add amounts n) ≡ amount_of add (get_or amounts p 0)
  slot_at amounts n low same =
      at_total (slot_shift problem slot p) at side add (side_of u side == slot) p slot_part amounts n low
      ∙ cond-true (side_of u side == slot) (amount_of add (get_or amounts p 0)) (pos 0) (eq-eqb (side_of u side) slot same)

  pub slot_other : (amounts : List ℕ) (n : ℕ) → p < n → (side_of u side ≡ slot → ⊥) → total (slot_shift problem slot p) (made at side add amounts n) ≡ pos 0
  slot_other amounts n low other =
      at_total (slot_shift problem slot p) at side add (side_of u side == slot) p slot_part amounts n low
      ∙ cond-false (side_of u side == slot) (amount_of add (get_or amounts p 0)) (pos 0) (ne_eqb (side_of u side) slot other)

-- ---- on the term of a use

module _ (number at p q : ℕ) (add : Bool) where
  target_part : (r amount : ℕ) → use_shift number p q (shift_to at 1 r add amount) ≡ cond ((at == number) && (r == q)) (amount_of add amount) (pos 0)
  target_part r amount = refl

  source_part : (r amount : ℕ) → use_shift number p q (shift_to at 0 r add amount) ≡ cond ((at == number) && (r == p)) (amount_of add amount) (pos 0)
  source_part r amount = refl

  pub target_at : (amounts : List ℕ) (n : ℕ) → q < n → at ≡ number → total (use_shift number p q) (made at 1 add amounts n) ≡ amount_of add (get_or amounts q 0)
  target_at amounts n low same =
      at_total (use_shift number p q) at 1 add (at == number) q target_part amounts n low
      ∙ cond-true (at == number) (amount_of add (get_or amounts q 0)) (pos 0) (eq-eqb at number same)

  pub source_past : (amounts : List ℕ) (n : ℕ) → n ≤ p → total (use_shift number p q) (made at 0 add amounts n) ≡ pos 0
  source_past amounts n past = past_total (use_shift number p q) at 0 add (at == number) p source_part amounts n past

  -- shifts of another use
  module _ (other : at ≡ number → ⊥) where
    no_use : (place : ℕ) (z : ℤ) (r : ℕ) → cond ((at == number) && (r == place)) z (pos 0) ≡ pos 0
    no_use place z r = ap (λ b. cond (b && (r == place)) z (pos 0)) (ne_eqb at number other)

    one_other : (side r amount : ℕ) → ((a : ℕ) → use_shift number p q (shift_to at side r add a) ≡ pos 0) → total (use_shift number p q) (one_shift at side add r amount) ≡ pos 0
    one_other side r zero none = refl
    one_other side r (suc n) none = let here = none (suc n) in omega (arith, ints, here)

    pub target_other : (amounts : List ℕ) (n : ℕ) → total (use_shift number p q) (made at 1 add amounts n) ≡ pos 0
    target_other amounts zero = refl
    target_other amounts (suc n) =
        let split = total_append (use_shift number p q) (made at 1 add amounts n) (one_shift at 1 add n (get_or amounts n 0)) in
        let front = target_other amounts n in
        let last = one_other 1 n (get_or amounts n 0) (λ a. no_use q (amount_of add a) n) in
        omega (arith, ints, split, front, last)

    pub source_other : (amounts : List ℕ) (n : ℕ) → total (use_shift number p q) (made at 0 add amounts n) ≡ pos 0
    source_other amounts zero = refl
    source_other amounts (suc n) =
        let split = total_append (use_shift number p q) (made at 0 add amounts n) (one_shift at 0 add n (get_or amounts n 0)) in
        let front = source_other amounts n in
        let last = one_other 0 n (get_or amounts n 0) (λ a. no_use p (amount_of add a) n) in
        omega (arith, ints, split, front, last)
