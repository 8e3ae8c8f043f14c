-- The closure of a word over larger sets, one name after another.
use Rattle.std.proofs.Common.{◌≡◌, ℕ, ◌+◌, ◌*◌, ◌/◌, ◌%◌, ◌^◌, ◌<◌, ◌≤◌, false, ◌&&◌, ◌||◌, eqb, refl, sym, ap, ◌∙◌, subst, arith, inl, inr}
use Rattle.std.specs.Prelude.{bit_and, bit_or, IsTrue}
use Rattle.std.specs.Int.{bit_at}
use Rattle.std.proofs.lemmas.Bool.{cases_Bool, and_parts, and_from, or_cases, or_left, or_right, true≢false, eqb-true}
use Rattle.std.proofs.lemmas.Nat.{and_le_l, shr-shr, shr_split}
use Rattle.std.proofs.lemmas.Nat.Bits.{bit_at-lt}
use Rattle.std.proofs.Math.Nat.{div-eq_of_lt}
use Rattle.vd_formula.specs.TruthTable.{has, is_subset}
use Rattle.vd_formula.proofs.Words.{has-and, has-or, bit_of_has}
use Rattle.vd_formula.proofs.Tables.{subset-has, subset-trans, subset-refl, subset-le, no_bit, added_lt, added_row, subset-added, added_subset}

-- a larger set with no other name from `reach` on
pub record Grown (reach set larger : ℕ) : Type 0 where
  pub within : IsTrue (is_subset set larger)
  pub same_above : larger / 2 ^ reach ≡ set / 2 ^ reach

-- the word is true at the sets from which the start is true at every set grown by names below `reach`
pub record IsClosedTo (n reach start word : ℕ) : Type 0 where
  pub small : word < 2 ^ (2 ^ n)
  pub sound : (set larger : ℕ) → larger < 2 ^ n → Grown reach set larger → IsTrue (has word set) → IsTrue (has start larger)
  pub complete : (set : ℕ) → set < 2 ^ n → ((larger : ℕ) → larger < 2 ^ n → Grown reach set larger → IsTrue (has start larger)) → IsTrue (has word set)

-- the bits of a word moved down
has-shr : (word by set : ℕ) → has (word / 2 ^ by) set ≡ has word (set + by)
has-shr word by set = ap (λ x. eqb (x % 2) 1) (shr-shr word by set) ∙ ap (λ k. has word k) (omega arith)

-- the rows above a name
row : (set name : ℕ) → set / 2 ^ name ≡ set / 2 ^ (name + 1) * 2 + bit_at set name
row set name = sym (shr_split (set / 2 ^ name) 1) ∙ ap (λ x. x * 2 + bit_at set name) (shr-shr set name 1)

row_of_row : (set larger name : ℕ) → larger / 2 ^ name ≡ set / 2 ^ name → larger / 2 ^ (name + 1) ≡ set / 2 ^ (name + 1)
row_of_row set larger name same = sym (shr-shr larger name 1) ∙ ap (λ x. x / 2 ^ 1) same ∙ shr-shr set name 1

-- ---- one step
module _ (n name start word : ℕ) (low : name < n) (so_far : IsClosedTo n name start word) where
  next : ℕ → ℕ
  next with_name = bit_and word (bit_or (word / 2 ^ (2 ^ name)) with_name)

  module _ (with_name : ℕ) (tells : (set : ℕ) → set < 2 ^ n → has with_name set ≡ has set name) where
    has-next : (set : ℕ) → set < 2 ^ n → has (next with_name) set ≡ (has word set && (has word (set + 2 ^ name) || has set name))
    unfolding next
    has-next set h =
        has-and word _ set ∙ ap (λ b. has word set && b) (has-or (word / 2 ^ (2 ^ name)) with_name set)
        ∙ ap (λ b. has word set && (b || has with_name set)) (has-shr word (2 ^ name) set)
        ∙ ap (λ b. has word set && (has word (set + 2 ^ name) || b)) (tells set h)

    next_small : next with_name < 2 ^ (2 ^ n)
    unfolding next
    next_small = let less : bit_and word (bit_or (word / 2 ^ (2 ^ name)) with_name) ≤ word = and_le_l word _ in let small = so_far.small in omega arith

    -- where both sets have the name or both lack it, the set grew by earlier names alone
    grown_before : (set larger : ℕ) → Grown (name + 1) set larger → has larger name ≡ has set name → Grown name set larger
    grown_before set larger grown same = record {
      within = grown.within;
      same_above = row larger name ∙ ap (λ x. x * 2 + bit_at larger name) grown.same_above ∙ ap (λ b. set / 2 ^ (name + 1) * 2 + b) (bit_of_has larger set name same) ∙ sym (row set name);
    }

    -- a row that gained the name is the row of the set with the name
    row_gained : (set larger : ℕ) → has set name ≡ false → IsTrue (has larger name) → larger / 2 ^ (name + 1) ≡ set / 2 ^ (name + 1) → larger / 2 ^ name ≡ (set + 2 ^ name) / 2 ^ name
    row_gained set larger lacks gained same =
        let bit : bit_at larger name ≡ 1 = eqb-true _ _ gained in
        let none : bit_at set name ≡ 0 = no_bit set name lacks in
        omega (arith, row set name, row larger name, added_row set name lacks, bit, none, same)

    row_added : (set : ℕ) → has set name ≡ false → (set + 2 ^ name) / 2 ^ (name + 1) ≡ set / 2 ^ (name + 1)
    row_added set lacks =
        let none : bit_at set name ≡ 0 = no_bit set name lacks in
        omega (arith, row set name, row (set + 2 ^ name) name, bit_at-lt (set + 2 ^ name) name, added_row set name lacks, none)

    next_sound : (set larger : ℕ) → larger < 2 ^ n → Grown (name + 1) set larger → IsTrue (has (next with_name) set) → IsTrue (has start larger)
    next_sound set larger h grown true_here =
        let small : set < 2 ^ n = (let le : set ≤ larger = subset-le set larger grown.within in omega arith) in
        let parts = and_parts _ _ (sym (has-next set small) ∙ true_here) in
        let as_before : has larger name ≡ has set name → IsTrue (has start larger) = λ same. so_far.sound set larger h (grown_before set larger grown same) parts.0 in
        elim (cases_Bool (has set name)) [
          | inl had ↦ as_before (subset-has set larger name grown.within had ∙ sym had)
          | inr lacks ↦ elim (cases_Bool (has larger name)) [
            | inr still ↦ as_before (still ∙ sym lacks)
            | inl gained ↦ so_far.sound (set + 2 ^ name) larger h
                (record { within = added_subset set name lacks n larger small low grown.within gained; same_above = row_gained set larger lacks gained grown.same_above })
                (elim (or_cases _ _ parts.1) [ inl w ↦ w | inr had ↦ absurd (true≢false (sym had ∙ lacks)) ])
          ]
        ]

    next_complete : (set : ℕ) → set < 2 ^ n → ((larger : ℕ) → larger < 2 ^ n → Grown (name + 1) set larger → IsTrue (has start larger)) → IsTrue (has (next with_name) set)
    next_complete set h each =
        has-next set h ∙ and_from _ _
        (so_far.complete set h (λ larger below grown. each larger below (record { within = grown.within; same_above = row_of_row set larger name grown.same_above })))
        (elim (cases_Bool (has set name)) [
          | inl had ↦ or_right _ _ had
          | inr lacks ↦ or_left _ _ (so_far.complete (set + 2 ^ name) (added_lt set name lacks n h low) (λ larger below grown. each larger below (record {
            within = subset-trans set (set + 2 ^ name) larger (subset-added set name lacks) grown.within;
            same_above = row_of_row (set + 2 ^ name) larger name grown.same_above ∙ row_added set lacks;
          })))
        ])

    pub closed_one_more : IsClosedTo n (name + 1) start (bit_and word (bit_or (word / 2 ^ (2 ^ name)) with_name))
    unfolding next
    closed_one_more = record { small = next_small; sound = next_sound; complete = next_complete }

-- ---- before the first name and after the last
pub closed_none : (n start : ℕ) → start < 2 ^ (2 ^ n) → IsClosedTo n 0 start start
closed_none n start small = record {
  small = small;
  sound = λ set larger h grown here. subst (λ s. IsTrue (has start s)) (sym (same set larger grown.same_above)) here;
  complete = λ set h each. each set h (record { within = subset-refl set; same_above = refl });
}
  where
    same : (set larger : ℕ) → larger / 2 ^ 0 ≡ set / 2 ^ 0 → larger ≡ set
    same set larger e = omega (arith, e)

module _ (n start word : ℕ) (closed : IsClosedTo n n start word) where
  grown_at_all : (set larger : ℕ) → larger < 2 ^ n → IsTrue (is_subset set larger) → Grown n set larger
  grown_at_all set larger h within = record {
    within = within;
    same_above = div-eq_of_lt h ∙ sym (div-eq_of_lt (let le : set ≤ larger = subset-le set larger within in let b : set < 2 ^ n = omega arith in b));
  }

  pub closed_sound : (set larger : ℕ) → larger < 2 ^ n → IsTrue (is_subset set larger) → IsTrue (has word set) → IsTrue (has start larger)
  closed_sound set larger h within here = closed.sound set larger h (grown_at_all set larger h within) here

  pub closed_complete : (set : ℕ) → set < 2 ^ n → ((larger : ℕ) → larger < 2 ^ n → IsTrue (is_subset set larger) → IsTrue (has start larger)) → IsTrue (has word set)
  closed_complete set h each = closed.complete set h (λ larger below grown. each larger below grown.within)
