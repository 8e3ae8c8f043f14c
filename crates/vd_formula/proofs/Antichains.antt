-- The minimal sets of a formula.
use Rattle.std.proofs.Common.{◌≡◌, ℕ, zero, suc, ◌+◌, ◌^◌, ◌<◌, ◌≤◌, Bool, true, false, not, ◌&&◌, cond, refl, sym, ap, ◌∙◌, subst, arith, inl, inr, List, [], ◌∷◌, ◌++◌}
use Rattle.std.specs.Prelude.{IsTrue, Contains, filter}
use Rattle.std.specs.List.{list_all, range_with_len}
use Rattle.std.specs.List.Sorted.{IsStrictlyIncreasing}
use Rattle.std.proofs.lemmas.List.Folds.{list_all-append}
use Rattle.std.proofs.lemmas.List.Elements.{filter-append, filter_passes, Contains-append_left, Contains-append_right}
use Rattle.std.proofs.lemmas.List.Kept.{IsStrictlyIncreasing-filter}
use Rattle.std.proofs.lemmas.List.FromFn.{length-range_with_len, get_or-range_with_len}
use Rattle.std.proofs.lemmas.Bool.{cases_eq, cases_Bool, and_parts, and_from, and_cases, not-true, not-false, true≢false, false_from_ne_true}
use Rattle.vd_formula.specs.TruthTable.{is_subset, sets, TruthTable, at}
use Rattle.vd_formula.specs.MinimalSets.{is_minimal, minimal_sets_of, AreMinimalSets}
use Rattle.vd_formula.proofs.Tables.{subset-le, subset-refl, subset-trans, all_from, from_all}

-- one more number of a range
pub range_more : (a n b : ℕ) → a + n ≡ b → range_with_len a (n + 1) ≡ range_with_len a n ++ b ∷ []
range_more a zero b e = ap (λ x. x ∷ []) (let f : a ≡ b = omega arith in f)
range_more a (suc n) b e =
    let more : suc n + 1 ≡ suc (n + 1) = omega arith in
    ap (range_with_len a) more ∙ ap (λ xs. a ∷ xs) (range_more (a + 1) n b (omega arith))

pub filter_one_more : (p : ℕ → Bool) (n : ℕ) → filter p (range_with_len 0 (n + 1)) ≡ filter p (range_with_len 0 n) ++ cond (p n) (n ∷ []) []
filter_one_more p n = ap (filter p) (range_more 0 n n (omega arith)) ∙ filter-append p (range_with_len 0 n) (n ∷ [])

pub all_one_more : (p : ℕ → Bool) (n : ℕ) → IsTrue (list_all p (range_with_len 0 n)) → IsTrue (p n) → IsTrue (list_all p (range_with_len 0 (n + 1)))
all_one_more p n all here = from_all p 0 (n + 1) (λ i low high. elim (cases_eq i n) [
  | inl same ↦ subst (λ k. IsTrue (p k)) (sym same) here
  | inr other ↦ all_from p 0 n all i low (let h : i < 0 + n = omega arith in h)
])

pub not_all : (p : ℕ → Bool) (n i : ℕ) → i < n → p i ≡ false → list_all p (range_with_len 0 n) ≡ false
not_all p n i h fails = false_from_ne_true _ (λ all. true≢false (sym (all_from p 0 n all i (omega arith) (omega arith)) ∙ fails))

all_more_is : (p : ℕ → Bool) (n : ℕ) → list_all p (range_with_len 0 (n + 1)) ≡ (list_all p (range_with_len 0 n) && (p n && true))
all_more_is p n = ap (list_all p) (range_more 0 n n (omega arith)) ∙ list_all-append p (range_with_len 0 n) (n ∷ [])

-- a number at which the test fails
fails_at : (p : ℕ → Bool) (n : ℕ) → list_all p (range_with_len 0 n) ≡ false → (i : ℕ) × (i < n) × (p i ≡ false)
fails_at p zero e = absurd (true≢false e)
fails_at p (suc n) e =
    let one_more : n + 1 ≡ suc n = omega arith in
    let parts = and_cases (list_all p (range_with_len 0 n)) (p n && true) (sym (all_more_is p n) ∙ ap (λ k. list_all p (range_with_len 0 k)) one_more ∙ e) in
    elim parts [
      | inl before ↦ let found = fails_at p n before in (found.0, omega (arith, found.1), found.2)
      | inr here ↦ (n, omega arith, last (p n) here)
    ]
  where
    last : (b : Bool) → (b && true) ≡ false → b ≡ false
    last true h = h
    last false h = refl

passing : (p : ℕ → Bool) (xs : List ℕ) (x : ℕ) → Contains (filter p xs) x → IsTrue (p x)
passing p xs x (k, below, same) = subst (λ y. IsTrue (p y)) same (filter_passes p xs k x below)

among : (p : ℕ → Bool) (n i : ℕ) → i < n → IsTrue (p i) → Contains (filter p (range_with_len 0 n)) i
among p zero i h passes = absurd (omega arith)
among p (suc n) i h passes =
    let one_more : n + 1 ≡ suc n = omega arith in
    subst (λ xs. Contains xs i) (sym (filter_one_more p n) ∙ ap (λ k. filter p (range_with_len 0 k)) one_more)
    (elim (cases_eq n i) [
      | inl here ↦ Contains-append_right (filter p (range_with_len 0 n)) _ i
          (subst (λ b. Contains (cond b (n ∷ []) []) i) (sym (ap p here ∙ passes)) (0, omega arith, here))
      | inr before ↦ Contains-append_left (filter p (range_with_len 0 n)) _ i (among p n i (omega arith) passes)
    ])

increasing_range : (a n : ℕ) → IsStrictlyIncreasing (range_with_len a n)
increasing_range a n k h =
    let count = length-range_with_len a n in
    let first = get_or-range_with_len a n k 0 (omega arith) in
    let second = get_or-range_with_len a n (k + 1) 0 (omega arith) in
    omega (arith, first, second)

module _ (f : TruthTable) where
  smaller_fails : ℕ → ℕ → Bool
  smaller_fails set smaller = not (is_subset smaller set && at f smaller)

  -- below any bound, a set at which the formula is true contains a minimal one
  minimal_within : (bound set : ℕ) → set < bound → IsTrue (at f set) → (minimal : ℕ) × (minimal ≤ set) × IsTrue (is_minimal f minimal) × IsTrue (is_subset minimal set)
  unfolding smaller_fails
  minimal_within zero set h here = absurd (omega arith)
  minimal_within (suc bound) set h here =
      elim (cases_Bool (is_minimal f set)) [
        | inl is ↦ (set, omega arith, is, subset-refl set)
        | inr is_not ↦ elim (and_cases (at f set) (list_all (smaller_fails set) (range_with_len 0 set)) is_not) [
          | inl never ↦ absurd (true≢false (sym here ∙ never))
          | inr some ↦
              let found = fails_at (smaller_fails set) set some in
              let parts = and_parts (is_subset found.0 set) (at f found.0) (not-false _ found.2) in
              let below = found.1 in
              let rest = minimal_within bound found.0 (omega arith) parts.1 in
              (rest.0, omega (arith, rest.1, below), rest.2, subset-trans rest.0 found.0 set rest.3 parts.0)
        ]
      ]

  pub are_minimal_sets : AreMinimalSets f (minimal_sets_of f)
  unfolding smaller_fails
  are_minimal_sets = record {
    in_order = IsStrictlyIncreasing-filter (is_minimal f) (sets f.names) (increasing_range 0 (2 ^ f.names));
    true_there = λ set listed. (and_parts _ _ (passing (is_minimal f) (sets f.names) set listed)).0;
    covering = λ set h here.
        let found = minimal_within (2 ^ f.names) set h here in
        (found.0, (among (is_minimal f) (2 ^ f.names) found.0 (omega (arith, found.1)) found.2, found.3));
    apart = λ one other listed other_listed within.
        elim (cases_eq one other) [
          | inl same ↦ same
          | inr differs ↦
              let le = subset-le one other within in
              let here : IsTrue (at f one) = (and_parts _ _ (passing (is_minimal f) (sets f.names) one listed)).0 in
              let alone = (and_parts (at f other) _ (passing (is_minimal f) (sets f.names) other other_listed)).1 in
              let fails = all_from (smaller_fails other) 0 other alone one (omega arith) (omega arith) in
              absurd (true≢false (sym (and_from _ _ within here) ∙ not-true _ fails))
        ];
  }
