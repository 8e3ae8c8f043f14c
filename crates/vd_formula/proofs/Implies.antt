-- The weakest formula whose conjunction with one formula acts for another; acts-for on words.
use Rattle.std.proofs.Common.{◌≡◌, ℕ, ◌-◌, ◌^◌, ◌<◌, ◌≤◌, Bool, true, false, not, ◌&&◌, ◌||◌, eqb, refl, sym, ap, ◌∙◌, subst, arith}
use Rattle.std.specs.Prelude.{bit_and, IsTrue}
use Rattle.std.specs.Int.{bit_not, w64}
use Rattle.std.specs.List.{list_all}
use Rattle.std.proofs.lemmas.Bool.{and_parts, and_from, true≢false}
use Rattle.std.proofs.lemmas.Nat.{and_le_l, pow_pos}
use Rattle.std.proofs.lemmas.Nat.Bits.{bit_at_ones, bit_at-zero}
use Rattle.std.proofs.Math.Nat.{pow-le-pow_right}
use Rattle.vd_formula.specs.TruthTable.{has, is_subset, sets, TruthTable, at, name_of, both_of, implies_of, ActsFor, IsFormula, IsWeakestWith}
use Rattle.vd_formula.proofs.Words.{has-and, has-not, same_words}
use Rattle.vd_formula.proofs.Tables.{table, at-formula_where, formula_where_is, same_truths, is_formula_where, subset-refl, subset-trans, at_each_set, all_sets_from}
use Rattle.vd_formula.proofs.Closure.{IsClosedTo, closed_none, closed_sound, closed_complete}

-- the sets of at most 6 names have numbers below 64
pub few_sets : (n : ℕ) → n ≤ 6 → 2 ^ n ≤ 64
few_sets n few = pow-le-pow_right (omega arith) few

word_of_few : (n word : ℕ) → n ≤ 6 → word < 2 ^ (2 ^ n) → word < 2 ^ 64
word_of_few n word few small = let more : 2 ^ (2 ^ n) ≤ 2 ^ 64 = pow-le-pow_right (omega arith) (few_sets n few) in omega arith

-- the word of the sets at which one is true and the other false
unfoldable pub only_first : ℕ → ℕ → ℕ
only_first p q = bit_and p (bit_not w64 q)

-- the word of the sets, among all sets of n names, at which it is not so
unfoldable pub start_of : ℕ → ℕ → ℕ → ℕ
start_of n p q = bit_and (2 ^ (2 ^ n) - 1) (bit_not w64 (only_first p q))

only_first_le : (p q : ℕ) → only_first p q ≤ p
unfolding only_first
only_first_le p q = and_le_l p _

implication : (a b : Bool) → not (a && not b) ≡ (not a || b)
implication true true = refl
implication true false = refl
implication false b = refl

pub if_so : (a b : Bool) → (not a || b) ≡ true → a ≡ true → b ≡ true
if_so true b h _ = h
if_so false b h e = absurd (true≢false (sym e))

pub then_so : (a b : Bool) → (a ≡ true → b ≡ true) → (not a || b) ≡ true
then_so true b h = h refl
then_so false b h = refl

same_tests : (a b : Bool) → (a ≡ true → b ≡ true) → (b ≡ true → a ≡ true) → a ≡ b
same_tests true b h k = sym (h refl)
same_tests false true h k = k refl
same_tests false false h k = refl

none_first : (a b : Bool) → (a && not b) ≡ false → a ≡ true → b ≡ true
none_first true true h _ = refl
none_first true false h _ = sym h
none_first false b h e = absurd (true≢false (sym e))

from_none : (a b : Bool) → (a ≡ true → b ≡ true) → (a && not b) ≡ false
from_none true b h = ap not (h refl)
from_none false b h = refl

module _ (f g : TruthTable) (is_f : IsFormula f) (is_g : IsFormula g) (names : f.names ≡ g.names) where
  small_g : g.truths < 2 ^ 64
  small_g = word_of_few g.names g.truths is_g.few_names is_g.no_other_bits

  small_f : f.truths < 2 ^ 64
  small_f = word_of_few f.names f.truths is_f.few_names is_f.no_other_bits

  has-only_first : (set : ℕ) → set < 64 → has (only_first f.truths g.truths) set ≡ (at f set && not (at g set))
  unfolding only_first
  has-only_first set h = has-and f.truths _ set ∙ ap (λ b. at f set && b) (has-not g.truths set small_g h)

  -- ---- acts for
  pub acts_for_if : only_first f.truths g.truths ≡ 0 → ActsFor f g
  unfolding only_first
  acts_for_if none set h here =
      let few = few_sets f.names is_f.few_names in
      let small : set < 64 = omega arith in
      none_first _ _ (sym (has-only_first set small) ∙ ap (λ w. has w set) none ∙ ap (λ x. eqb x 1) (bit_at-zero set)) here

  pub acts_for_only_if : ActsFor f g → only_first f.truths g.truths ≡ 0
  unfolding only_first
  acts_for_only_if acts =
      let less : only_first f.truths g.truths ≤ f.truths = and_le_l f.truths _ in
      let small = is_f.no_other_bits in
      same_words (2 ^ f.names) (only_first f.truths g.truths) 0 (omega arith) (omega arith) (λ set h.
      let few = few_sets f.names is_f.few_names in
      has-only_first set (omega arith) ∙ from_none _ _ (acts set h) ∙ sym (ap (λ x. eqb x 1) (bit_at-zero set)))

  -- ---- implies
  -- one of the two is true at no larger set at which f is true and g is not
  test : ℕ → ℕ → Bool
  test set larger = not (is_subset set larger && at f larger) || at g larger

  pub at-implies_sound : (set larger : ℕ) → set < 2 ^ f.names → larger < 2 ^ f.names → IsTrue (is_subset set larger) → IsTrue (at (implies_of f g) set) → IsTrue (at f larger) → IsTrue (at g larger)
  unfolding implies_of test
  at-implies_sound set larger h k within here f_true =
      let all = sym (at-formula_where f.names (λ s. list_all (test s) (sets f.names)) set h) ∙ here in
      if_so _ _ (at_each_set f.names (test set) all larger k) (and_from _ _ within f_true)

  pub at-implies_complete : (set : ℕ) → set < 2 ^ f.names → ((larger : ℕ) → larger < 2 ^ f.names → IsTrue (is_subset set larger) → IsTrue (at f larger) → IsTrue (at g larger)) → IsTrue (at (implies_of f g) set)
  unfolding implies_of test
  at-implies_complete set h each =
      at-formula_where f.names (λ s. list_all (test s) (sets f.names)) set h
      ∙ all_sets_from f.names (test set) (λ larger k. then_so _ _ (λ both. let parts = and_parts _ _ both in each larger k parts.0 parts.1))

  pub is_formula-implies : IsFormula (implies_of f g)
  unfolding implies_of test
  is_formula-implies = is_formula_where f.names (λ s. list_all (test s) (sets f.names)) is_f.few_names (λ set larger h within here.
      all_sets_from f.names (test larger) (λ more k. then_so _ _ (λ both.
      let parts = and_parts _ _ both in
      if_so _ _ (at_each_set f.names (test set) here more k) (and_from _ _ (subset-trans set larger more within parts.0) parts.1))))

  has-start : (set : ℕ) → set < 2 ^ f.names → has (start_of f.names f.truths g.truths) set ≡ (not (at f set) || at g set)
  unfolding start_of
  has-start set h =
      let few = few_sets f.names is_f.few_names in
      let small : set < 64 = omega arith in
      let less : only_first f.truths g.truths ≤ f.truths = only_first_le f.truths g.truths in
      let small_f = small_f in
      has-and _ _ set ∙ ap (λ b. b && has (bit_not w64 (only_first f.truths g.truths)) set) (ap (λ x. eqb x 1) (bit_at_ones (2 ^ f.names) set h))
      ∙ has-not (only_first f.truths g.truths) set (omega arith) small ∙ ap not (has-only_first set small) ∙ implication (at f set) (at g set)

  start_small : start_of f.names f.truths g.truths < 2 ^ (2 ^ f.names)
  unfolding start_of
  start_small =
      let less : start_of f.names f.truths g.truths ≤ 2 ^ (2 ^ f.names) - 1 = and_le_l (2 ^ (2 ^ f.names) - 1) _ in
      let some : 0 < 2 ^ (2 ^ f.names) = pow_pos (2 ^ f.names) in
      omega arith

  pub closed_start : IsClosedTo f.names 0 (start_of f.names f.truths g.truths) (start_of f.names f.truths g.truths)
  closed_start = closed_none f.names _ start_small

  pub implies_is : (word : ℕ) → IsClosedTo f.names f.names (start_of f.names f.truths g.truths) word → table f.names word ≡ implies_of f g
  unfolding implies_of test
  implies_is word closed =
      formula_where_is f.names word (λ s. list_all (test s) (sets f.names)) closed.small (λ set h. same_tests _ _
      (λ here. all_sets_from f.names (test set) (λ larger k. then_so _ _ (λ both.
      let parts = and_parts _ _ both in
      if_so (at f larger) (at g larger) (sym (has-start larger k) ∙ closed_sound f.names _ word closed set larger k parts.0 here) parts.1)))
      (λ all. closed_complete f.names _ word closed set h (λ larger k within.
      has-start larger k ∙ then_so _ _ (λ f_true. if_so _ _ (at_each_set f.names (test set) all larger k) (and_from _ _ within f_true)))))

-- ---- the weakest
module _ (f g : TruthTable) (is_f : IsFormula f) (is_g : IsFormula g) (names : f.names ≡ g.names) where
  pub is_weakest : IsWeakestWith f g (implies_of f g)
  unfolding both_of
  is_weakest x is_x same = (
    λ both_acts set h here. at-implies_complete f g is_f is_g names set (below set h) (λ larger k within f_true.
        let x_true = is_x.monotone set larger (above larger k) within here in
        both_acts larger (above larger k) (at-formula_where x.names (λ s. at x s && at f s) larger (above larger k) ∙ and_from _ _ x_true f_true)),
    λ acts set h here.
        let parts = and_parts (at x set) (at f set) (sym (at-formula_where x.names (λ s. at x s && at f s) set h) ∙ here) in
        at-implies_sound f g is_f is_g names set set (below set h) (below set h) (subset-refl set) (acts set h parts.0) parts.1,
  )
    where
      below : (set : ℕ) → set < 2 ^ x.names → set < 2 ^ f.names
      below set h = subst (λ n. set < 2 ^ n) same h

      above : (set : ℕ) → set < 2 ^ f.names → set < 2 ^ x.names
      above set h = subst (λ n. set < 2 ^ n) (sym same) h

  -- two formulas that act for each other are equal
  pub antisymmetric : ActsFor f g → ActsFor g f → f ≡ g
  antisymmetric there back = same_truths f g is_f is_g names (λ set h. same_tests _ _ (there set h) (back set (subst (λ n. set < 2 ^ n) names h)))

-- ---- a name
pub name_is : (place n : ℕ) → n ≤ 6 → (word : ℕ) → ((set : ℕ) → set < 64 → has word set ≡ has set place) → table n (bit_and (2 ^ (2 ^ n) - 1) word) ≡ name_of place n
unfolding name_of
name_is place n few word tells =
    let less : bit_and (2 ^ (2 ^ n) - 1) word ≤ 2 ^ (2 ^ n) - 1 = and_le_l _ _ in
    let some : 0 < 2 ^ (2 ^ n) = pow_pos (2 ^ n) in
    formula_where_is n (bit_and (2 ^ (2 ^ n) - 1) word) (λ set. has set place) (omega arith) (λ set h.
    has-and _ word set ∙ ap (λ b. b && has word set) (ap (λ x. eqb x 1) (bit_at_ones (2 ^ n) set h)) ∙ tells set (omega (arith, few_sets n few)))
