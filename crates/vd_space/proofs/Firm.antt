-- The greater of two bounds is within a cost at no more prefixes than the first of them.
use Rattle.std.proofs.Common.{◌≡◌, ℕ, zero, suc, ◌+◌, ◌≤◌, Bool, true, false, true≢false, ◌&&◌, if◌then◌else◌, List, [], ◌∷◌, ◌++◌, refl, sym, arith, T}
use Rattle.std.specs.Prelude.{ℤ, ◌≤ℤ◌, int_le}
use Rattle.std.specs.Int.{int_max}
use Rattle.std.proofs.lemmas.Bool.{and_parts}
use Rattle.std.proofs.lemmas.Int.{ints, int_max_is}
use Rattle.vd_search_tree.specs.Trees.{is_within, sum_below, count_from}
use Rattle.vd_search_tree.specs.declared.shift.Shift.{Shift}
use Rattle.vd_space.specs.declared.problem.Problem.{Problem}
use Rattle.vd_space.specs.Bounds.{low, shifted}
use Rattle.vd_space.specs.Spaces.{tree_of}
use Rattle.vd_space.specs.Usual.{firm, hard, low_tree, usual}
use Rattle.vd_space.specs.Validity.{is_valid}

abbrev Implies : (f g : List ℕ → Bool) → Type 0
Implies f g = (prefix : List ℕ) → f prefix ≡ true → g prefix ≡ true

sums : (f g : ℕ → ℕ) → ((n : ℕ) → f n ≤ g n) → (k : ℕ) → sum_below f k ≤ sum_below g k
sums f g h zero = omega arith
sums f g h (suc k) = let before = sums f g h k in let here = h k in omega (arith, before, here)

ones : (a b : Bool) → (a ≡ true → b ≡ true) → (if a then 1 else 0) ≤ (if b then 1 else 0)
ones true true h = omega arith
ones true false h = absurd (true≢false (sym (h refl)))
ones false true h = omega arith
ones false false h = omega arith

counts : (f g : List ℕ → Bool) → Implies f g → (choices left : ℕ) (prefix : List ℕ) → count_from f choices left prefix ≤ count_from g choices left prefix
counts f g h choices zero prefix = ones (f prefix) (g prefix) (h prefix)
counts f g h choices (suc left) prefix =
    let here = ones (f prefix) (g prefix) (h prefix) in
    let below =
    sums (λ choice. count_from f choices left (prefix ++ choice ∷ [])) (λ choice. count_from g choices left (prefix ++ choice ∷ []))
    (λ choice. counts f g h choices left (prefix ++ choice ∷ [])) choices in
    omega (arith, here, below)

of_true : (b : Bool) → b ≡ true → T b
of_true true e = tt
of_true false e = absurd (true≢false (sym e))

true_of : (b : Bool) → T b → b ≡ true
true_of true t = refl
true_of false t = absurd t

smaller : (a b most : ℤ) → int_le (int_max a b) most ≡ true → int_le a most ≡ true
smaller a b most h = le_true a most (omega (arith, ints, int_max_is a b, le_of (int_max a b) most h))
  where
    le_of : (x y : ℤ) → int_le x y ≡ true → x ≤ℤ y
    le_of x y e = record { le = of_true (int_le x y) e }

    le_true : (x y : ℤ) → x ≤ℤ y → int_le x y ≡ true
    le_true x y le = true_of (int_le x y) le.le

within : (problem : Problem) (shifts : List Shift) (most : ℤ) → Implies (is_within (tree_of problem shifts) most) (is_within (low_tree problem) most)
within problem shifts most prefix h =
    let p = and_parts (is_valid problem prefix) (int_le (int_max (low problem prefix) (shifted problem shifts prefix)) most) h in
    and_of (is_valid problem prefix) (int_le (low problem prefix) most) p.0 (smaller (low problem prefix) (shifted problem shifts prefix) most p.1)
  where
    and_of : (a b : Bool) → a ≡ true → b ≡ true → (a && b) ≡ true
    and_of a b e f = rw (e, f) refl

pub at_most : (problem : Problem) (cost : ℤ) → firm problem cost ≤ hard problem cost
at_most problem cost =
    let tree = low_tree problem in
    counts (is_within (tree_of problem (usual problem)) cost) (is_within tree cost) (within problem (usual problem) cost) tree.choices tree.slots []
