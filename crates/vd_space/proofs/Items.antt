-- Items of lists, and tests of them.
use Rattle.std.proofs.Common.{◌≡◌, ℕ, zero, suc, ◌+◌, ◌<◌, ◌≤◌, ◌⊎◌, Bool, false, Option, Some, None, List, [], ◌∷◌, filter, flat_map, length, refl, sym, ap, ap₂, subst, arith, inl, inr, ℤ, pos, ◌+ℤ◌, ◌*ℤ◌, slice_get}
use Rattle.std.specs.Prelude.{IsTrue, is_some}
use Rattle.std.specs.List.{AllByRecursion, list_all, list_any, range_with_len}
use Rattle.std.specs.Option.{option_map_or}
use Rattle.std.proofs.lemmas.Int.{ints}
use Rattle.std.proofs.lemmas.Bool.{true≢false, and_from, or_cases, or_left, or_right, cases_Bool, cases_eq, cond-true, cond-false}
use Rattle.vd_space.specs.Costs.{total}
use Rattle.vd_space.proofs.Totals.{total_append}
use Rattle.vd_space.proofs.Tests.{each_leads}
use Rattle.vd_space.proofs.Valued.{each_append}

pub within : {X : Type 0} (xs : List X) (k : ℕ) → k < length xs → (x : X) × (slice_get xs k ≡ Some x)
within [] k low = absurd (omega arith)
within (x ∷ xs) zero low = (x, refl)
within (x ∷ xs) (suc k) low = within xs k (omega arith)

pub inside : {X : Type 0} (xs : List X) (k : ℕ) → IsTrue (is_some (slice_get xs k)) → k < length xs
inside [] k is = absurd (true≢false (sym is))
inside (x ∷ xs) zero is = omega arith
inside (x ∷ xs) (suc k) is = let rest = inside xs k is in omega (arith, rest)

-- what passes a test that nothing passes where there is no item
pub held : {X : Type 0} (test : X → Bool) (item : Option X) → IsTrue (option_map_or test item false) → (x : X) × (item ≡ Some x) × IsTrue (test x)
held test None is = absurd (true≢false (sym is))
held test (Some x) is = (x, refl, is)

pub any_held : {X : Type 0} (test : X → Bool) (xs : List X) → IsTrue (list_any test xs) → (x : X) × IsTrue (test x)
any_held test [] any = absurd (true≢false (sym any))
any_held test (x ∷ xs) any = elim (or_cases (test x) (list_any test xs) any) [ inl here ↦ (x, here) | inr there ↦ any_held test xs there ]

cases_first : (first k : ℕ) → first ≤ k → (first ≡ k) ⊎ (first + 1 ≤ k)
cases_first first k low = elim (cases_eq first k) [ inl same ↦ inl same | inr other ↦ inr (omega (arith, low, other)) ]

pub any_in_range : (test : ℕ → Bool) (first count k : ℕ) → first ≤ k → k < first + count → IsTrue (test k) → IsTrue (list_any test (range_with_len first count))
any_in_range test first zero k low high is = absurd (omega (arith, low, high))
any_in_range test first (suc count) k low high is = elim (cases_first first k low) [
  | inl same ↦ or_left (test first) (list_any test (range_with_len (first + 1) count)) (subst (λ i. IsTrue (test i)) (sym same) is)
  | inr later ↦ or_right (test first) (list_any test (range_with_len (first + 1) count)) (any_in_range test (first + 1) count k later (omega (arith, high)) is)
]

-- what passes one test and all that pass another
pub all_filtered : {X : Type 0} (keep test : X → Bool) → ((x : X) → IsTrue (keep x) → IsTrue (test x)) → (xs : List X) → IsTrue (list_all test (filter keep xs))
all_filtered keep test leads [] = refl
all_filtered keep test leads (x ∷ xs) = elim (cases_Bool (keep x)) [
  | inl kept ↦ subst (λ list. IsTrue (list_all test list)) (sym (cond-true (keep x) (x ∷ filter keep xs) (filter keep xs) kept))
      (and_from (test x) (list_all test (filter keep xs)) (leads x kept) (all_filtered keep test leads xs))
  | inr other ↦ subst (λ list. IsTrue (list_all test list)) (sym (cond-false (keep x) (x ∷ filter keep xs) (filter keep xs) other)) (all_filtered keep test leads xs)
]

-- of all items of a list, each of those that are kept
pub each_filtered : {X : Type 0} (keep : X → Bool) (P Q : X → Type 0) → ((x : X) → IsTrue (keep x) → P x → Q x) → (xs : List X) → AllByRecursion P xs → AllByRecursion Q (filter keep xs)
each_filtered keep P Q leads [] each = tt
each_filtered keep P Q leads (x ∷ xs) each = elim (cases_Bool (keep x)) [
  | inl kept ↦ subst (AllByRecursion Q) (sym (cond-true (keep x) (x ∷ filter keep xs) (filter keep xs) kept)) (leads x kept each.0, each_filtered keep P Q leads xs each.1)
  | inr other ↦ subst (AllByRecursion Q) (sym (cond-false (keep x) (x ∷ filter keep xs) (filter keep xs) other)) (each_filtered keep P Q leads xs each.1)
]

-- each item that passes a test makes some pass
pub each_makes_any : {X : Type 0} (test : X → Bool) (xs : List X) → AllByRecursion (λ x. IsTrue (test x) → IsTrue (list_any test xs)) xs
each_makes_any test [] = tt
each_makes_any test (x ∷ xs) = (
  λ here. or_left (test x) (list_any test xs) here,
  each_leads (λ y. IsTrue (test y) → IsTrue (list_any test xs)) (λ y. IsTrue (test y) → IsTrue (list_any test (x ∷ xs))) (λ y leads passes. or_right (test x) (list_any test xs) (leads passes)) xs (each_makes_any test xs),
)

pub each_flat : {X Y : Type 0} (P : Y → Type 0) (f : X → List Y) (xs : List X) → AllByRecursion (λ x. AllByRecursion P (f x)) xs → AllByRecursion P (flat_map f xs)
each_flat P f [] each = tt
each_flat P f (x ∷ xs) each = each_append P (f x) (flat_map f xs) each.0 (each_flat P f xs each.1)

pub each_in_range : (P : ℕ → Type 0) (first count : ℕ) → ((k : ℕ) → first ≤ k → k < first + count → P k) → AllByRecursion P (range_with_len first count)
each_in_range P first zero each = tt
each_in_range P first (suc count) each = (each first (omega arith) (omega arith), each_in_range P (first + 1) count (λ k low high. each k (omega (arith, low)) (omega (arith, high))))

-- ---- sums

pub total_flat : {X Y : Type 0} (g : Y → ℤ) (f : X → List Y) (xs : List X) → total g (flat_map f xs) ≡ total (λ x. total g (f x)) xs
total_flat g f [] = refl
total_flat g f (x ∷ xs) =
    let split = total_append g (f x) (flat_map f xs) in
    let rest = total_flat g f xs in
    omega (arith, ints, split, rest)

pub total_times : {X : Type 0} (f : X → ℤ) (xs : List X) → total (λ x. f x *ℤ pos 256) xs ≡ total f xs *ℤ pos 256
total_times f [] = refl
total_times f (x ∷ xs) = let rest = total_times f xs in omega (arith, ints, rest)

start_alone : (f : ℕ → ℤ) (first back : ℕ) → total f (range_with_len first (zero + back)) ≡ total f (range_with_len (first + zero) back)
start_alone f first back =
    let start : first ≡ first + zero = omega arith in
    let count : zero + back ≡ back = omega arith in
    ap₂ (λ a b. total f (range_with_len a b)) start count

suc_sum : (a b : ℕ) → suc a + b ≡ suc (a + b)
suc_sum a b = omega arith

pub total_split : (f : ℕ → ℤ) (first front back : ℕ) → total f (range_with_len first (front + back)) ≡ total f (range_with_len first front) +ℤ total f (range_with_len (first + front) back)
total_split f first zero back = let start = start_alone f first back in omega (arith, ints, start)
total_split f first (suc front) back =
    let one_more : total f (range_with_len first (suc front + back)) ≡ f first +ℤ total f (range_with_len (first + 1) (front + back)) = ap (λ n. total f (range_with_len first n)) (suc_sum front back) in
    let rest = total_split f (first + 1) front back in
    let same : first + 1 + front ≡ first + suc front = omega arith in
    let start = ap (λ n. total f (range_with_len n back)) same in
    omega (arith, ints, one_more, rest, start)
