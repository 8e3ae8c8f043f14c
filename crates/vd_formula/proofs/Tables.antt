-- Truth tables: what a table made by a test is, and that formulas stay formulas.
use Rattle.std.proofs.Common.{◌≡◌, ℕ, zero, suc, ◌+◌, ◌-◌, ◌*◌, ◌/◌, ◌^◌, ◌<◌, ◌≤◌, Bool, true, false, ◌&&◌, ◌||◌, eqb, refl, sym, ap, ◌∙◌, subst, arith, inl, inr}
use Rattle.std.specs.Prelude.{bit_and, bit_or, IsTrue}
use Rattle.std.specs.Int.{bit_at}
use Rattle.std.specs.List.{list_all, range_with_len}
use Rattle.std.specs.Int.Bits.{and_self}
use Rattle.std.proofs.lemmas.Bool.{cases_eq, and_parts, and_from, or_cases, or_left, or_right, true≢false, eqb-true, eq-eqb}
use Rattle.std.proofs.lemmas.Nat.{pow_pos, pow_below, and_le_l, and_le_r, and_assoc, and_comm, or_comm, and_or_self, or_lt, or_disjoint}
use Rattle.std.proofs.lemmas.Nat.Bits.{bit_at-lt, bit_at-zero, bit_at_ones, bit_at-pow_other, and_pow}
use Rattle.std.proofs.Math.Nat.{add-div_right}
use Rattle.vd_formula.specs.TruthTable.{has, is_subset, sets, TruthTable, at, word_where, formula_where, any_of, never_of, name_of, both_of, either_of, IsFormula}
use Rattle.vd_formula.proofs.Words.{has-and, has-or, same_words, word_where_lt, has-word_where}

abbrev pub table : ℕ → ℕ → TruthTable
table n truths = record { names = n; truths = truths }

-- ---- a table made by a test
pub at-formula_where : (n : ℕ) (test : ℕ → Bool) (set : ℕ) → set < 2 ^ n → at (formula_where n test) set ≡ test set
at-formula_where n test set h = has-word_where test (2 ^ n) set h

pub formula_where_is : (n truths : ℕ) (test : ℕ → Bool) → truths < 2 ^ (2 ^ n) → ((set : ℕ) → set < 2 ^ n → has truths set ≡ test set) → table n truths ≡ formula_where n test
formula_where_is n truths test small same =
    ap (table n) (same_words (2 ^ n) truths (word_where test (2 ^ n)) small (word_where_lt test (2 ^ n)) (λ i h. same i h ∙ sym (has-word_where test (2 ^ n) i h)))

-- two formulas over as many names with the same truths are equal
pub same_truths : (f g : TruthTable) → IsFormula f → IsFormula g → f.names ≡ g.names → ((set : ℕ) → set < 2 ^ f.names → at f set ≡ at g set) → f ≡ g
same_truths f g is_f is_g names same =
    let small : g.truths < 2 ^ (2 ^ f.names) = subst (λ n. g.truths < 2 ^ (2 ^ n)) (sym names) is_g.no_other_bits in
    ap (table f.names) (same_words (2 ^ f.names) f.truths g.truths is_f.no_other_bits small same) ∙ ap (λ n. table n g.truths) names

-- ---- subsets
pub subset-has : (set larger name : ℕ) → IsTrue (is_subset set larger) → IsTrue (has set name) → IsTrue (has larger name)
subset-has set larger name within had =
    let same : bit_and set larger ≡ set = eqb-true _ _ within in
    (and_parts _ _ (sym (has-and set larger name) ∙ ap (λ w. has w name) same ∙ had)).1

subset_from_has : (n set larger : ℕ) → set < 2 ^ n → ((name : ℕ) → name < n → IsTrue (has set name) → IsTrue (has larger name)) → IsTrue (is_subset set larger)
subset_from_has n set larger small each =
    let smaller : bit_and set larger ≤ set = and_le_l set larger in
    let both_in : bit_and set larger < 2 ^ n = omega arith in
    eq-eqb _ _ (same_words n _ _ both_in small (λ i h. has-and set larger i ∙ absorbed (has set i) (has larger i) (each i h)))
  where
    absorbed : (a b : Bool) → (a ≡ true → b ≡ true) → (a && b) ≡ a
    absorbed true b h = h refl
    absorbed false b h = refl

pub subset-trans : (a b c : ℕ) → IsTrue (is_subset a b) → IsTrue (is_subset b c) → IsTrue (is_subset a c)
subset-trans a b c p q =
    let first : bit_and a b ≡ a = eqb-true _ _ p in
    let second : bit_and b c ≡ b = eqb-true _ _ q in
    eq-eqb _ _ (ap (λ x. bit_and x c) (sym first) ∙ and_assoc c a b ∙ ap (λ x. bit_and a x) second ∙ first)

pub subset-refl : (a : ℕ) → IsTrue (is_subset a a)
subset-refl a = eq-eqb _ _ (and_self a)

pub subset-le : (a b : ℕ) → IsTrue (is_subset a b) → a ≤ b
subset-le a b p = subst (λ x. x ≤ b) (eqb-true _ _ p) (and_le_r a b)

-- ---- a set with one more name
module _ (set name : ℕ) (lacks : has set name ≡ false) where
  pub no_bit : bit_at set name ≡ 0
  no_bit = zero_of (bit_at set name) (bit_at-lt set name) lacks
    where
      zero_of : (x : ℕ) → x < 2 → eqb x 1 ≡ false → x ≡ 0
      zero_of zero _ _ = refl
      zero_of (suc zero) _ e = absurd (true≢false e)
      zero_of (suc (suc x)) p _ = absurd (omega arith)

  apart : bit_and set (2 ^ name) ≡ 0
  apart = and_pow set name ∙ ap (λ b. b * 2 ^ name) no_bit ∙ omega arith

  added : bit_or set (2 ^ name) ≡ set + 2 ^ name
  added = or_disjoint set (2 ^ name) apart

  pub added_lt : (n : ℕ) → set < 2 ^ n → name < n → set + 2 ^ name < 2 ^ n
  added_lt n small low = subst (λ x. x < 2 ^ n) added (or_lt n set (2 ^ name) small (pow_below name n low))

  has-added : (other : ℕ) → has (set + 2 ^ name) other ≡ (has set other || has (2 ^ name) other)
  has-added other = ap (λ w. has w other) (sym added) ∙ has-or set (2 ^ name) other

  pub added_row : (set + 2 ^ name) / 2 ^ name ≡ set / 2 ^ name + 1
  added_row = add-div_right set (pow_pos name)

  pub subset-added : IsTrue (is_subset set (set + 2 ^ name))
  subset-added = eq-eqb _ _ (and_comm set (set + 2 ^ name) ∙ ap (λ w. bit_and w set) (sym added ∙ or_comm set (2 ^ name)) ∙ and_or_self set (2 ^ name))

  pub added_subset : (n larger : ℕ) → set < 2 ^ n → name < n → IsTrue (is_subset set larger) → IsTrue (has larger name) → IsTrue (is_subset (set + 2 ^ name) larger)
  added_subset n larger small low within had =
      subset_from_has n (set + 2 ^ name) larger (added_lt n small low) (λ other h in_sum. elim (or_cases _ _ (sym (has-added other) ∙ in_sum)) [
        | inl old ↦ subset-has set larger other within old
        | inr new ↦ subst (λ k. IsTrue (has larger k)) (sym (only name other new)) had
      ])
    where
      only : (name other : ℕ) → IsTrue (has (2 ^ name) other) → other ≡ name
      only name other new = elim (cases_eq other name) [ inl same ↦ same | inr differs ↦ absurd (true≢false (sym new ∙ ap (λ x. eqb x 1) (bit_at-pow_other name other differs))) ]

-- ---- a test at all numbers of a range
pub all_from : (test : ℕ → Bool) (a n : ℕ) → IsTrue (list_all test (range_with_len a n)) → (i : ℕ) → a ≤ i → i < a + n → IsTrue (test i)
all_from test a zero all i low high = absurd (omega arith)
all_from test a (suc n) all i low high =
    elim (cases_eq a i) [
      | inl here ↦ subst (λ k. IsTrue (test k)) here (and_parts _ _ all).0
      | inr later ↦ all_from test (a + 1) n (and_parts _ _ all).1 i (omega arith) (omega arith)
    ]

pub from_all : (test : ℕ → Bool) (a n : ℕ) → ((i : ℕ) → a ≤ i → i < a + n → IsTrue (test i)) → IsTrue (list_all test (range_with_len a n))
from_all test a zero each = refl
from_all test a (suc n) each = and_from _ _ (each a (omega arith) (omega arith)) (from_all test (a + 1) n (λ i low high. each i (omega arith) (omega arith)))

pub at_each_set : (n : ℕ) (test : ℕ → Bool) → IsTrue (list_all test (sets n)) → (set : ℕ) → set < 2 ^ n → IsTrue (test set)
at_each_set n test all set h = all_from test 0 (2 ^ n) all set (omega arith) (omega arith)

pub all_sets_from : (n : ℕ) (test : ℕ → Bool) → ((set : ℕ) → set < 2 ^ n → IsTrue (test set)) → IsTrue (list_all test (sets n))
all_sets_from n test each = from_all test 0 (2 ^ n) (λ i low high. each i (omega arith))

-- ---- formulas stay formulas
pub is_formula_where : (n : ℕ) (test : ℕ → Bool) → n ≤ 6 → ((set larger : ℕ) → larger < 2 ^ n → IsTrue (is_subset set larger) → IsTrue (test set) → IsTrue (test larger)) → IsFormula (formula_where n test)
is_formula_where n test few grows = record {
  few_names = few;
  no_other_bits = word_where_lt test (2 ^ n);
  monotone = λ set larger h within here.
      let le : set ≤ larger = subset-le set larger within in
      let small : set < 2 ^ n = omega arith in
      at-formula_where n test larger h ∙ grows set larger h within (sym (at-formula_where n test set small) ∙ here);
}

pub is_formula-any : (n : ℕ) → n ≤ 6 → IsFormula (any_of n)
unfolding any_of
is_formula-any n few = is_formula_where n (λ set. true) few (λ set larger h within here. refl)

pub is_formula-never : (n : ℕ) → n ≤ 6 → IsFormula (never_of n)
unfolding never_of
is_formula-never n few = is_formula_where n (λ set. false) few (λ set larger h within here. here)

module _ (f g : TruthTable) (is_f : IsFormula f) (is_g : IsFormula g) (names : f.names ≡ g.names) where
  in_other : (set : ℕ) → set < 2 ^ f.names → set < 2 ^ g.names
  in_other set h = subst (λ n. set < 2 ^ n) names h

  small_other : g.truths < 2 ^ (2 ^ f.names)
  small_other = subst (λ n. g.truths < 2 ^ (2 ^ n)) (sym names) is_g.no_other_bits

  pub is_formula-both : IsFormula (both_of f g)
  unfolding both_of
  is_formula-both = is_formula_where f.names (λ set. at f set && at g set) is_f.few_names (λ set larger h within here.
      let parts = and_parts (at f set) (at g set) here in
      and_from _ _ (is_f.monotone set larger h within parts.0) (is_g.monotone set larger (in_other larger h) within parts.1))

  pub is_formula-either : IsFormula (either_of f g)
  unfolding either_of
  is_formula-either = is_formula_where f.names (λ set. at f set || at g set) is_f.few_names (λ set larger h within here.
      elim (or_cases (at f set) (at g set) here) [
        | inl first ↦ or_left _ _ (is_f.monotone set larger h within first)
        | inr second ↦ or_right _ _ (is_g.monotone set larger (in_other larger h) within second)
      ])

  pub both_is : table f.names (bit_and f.truths g.truths) ≡ both_of f g
  unfolding both_of
  both_is =
      let less : bit_and f.truths g.truths ≤ f.truths = and_le_l f.truths g.truths in
      let small = is_f.no_other_bits in
      formula_where_is f.names (bit_and f.truths g.truths) (λ set. at f set && at g set) (omega arith) (λ set h. has-and f.truths g.truths set)

  pub either_is : table f.names (bit_or f.truths g.truths) ≡ either_of f g
  unfolding either_of
  either_is =
      formula_where_is f.names (bit_or f.truths g.truths) (λ set. at f set || at g set) (or_lt (2 ^ f.names) f.truths g.truths is_f.no_other_bits small_other) (λ set h. has-or f.truths g.truths set)

pub any_is : (n : ℕ) → table n (2 ^ (2 ^ n) - 1) ≡ any_of n
unfolding any_of
any_is n =
    let some : 0 < 2 ^ (2 ^ n) = pow_pos (2 ^ n) in
    formula_where_is n (2 ^ (2 ^ n) - 1) (λ set. true) (omega arith) (λ set h. ap (λ x. eqb x 1) (bit_at_ones (2 ^ n) set h))

pub never_is : (n : ℕ) → table n 0 ≡ never_of n
unfolding never_of
never_is n = formula_where_is n 0 (λ set. false) (pow_pos (2 ^ n)) (λ set h. ap (λ x. eqb x 1) (bit_at-zero set))

pub is_formula-name : (place n : ℕ) → n ≤ 6 → IsFormula (name_of place n)
unfolding name_of
is_formula-name place n few = is_formula_where n (λ set. has set place) few (λ set larger h within here. subset-has set larger place within here)
