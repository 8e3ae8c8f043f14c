-- Sums and tests over the items that pass, by their numbers.
use Rattle.std.proofs.Common.{◌≡◌, ℕ, zero, suc, ◌+◌, Bool, true, false, ◌&&◌, cond, Option, Some, List, [], ◌∷◌, map, filter, refl, sym, ap, ap₂, ◌∙◌, subst, arith, ℤ, ◌+ℤ◌, inl, inr, slice_get}
use Rattle.std.specs.List.{list_all}
use Rattle.std.specs.Option.{option_map_or}
use Rattle.std.proofs.lemmas.Int.{ints}
use Rattle.std.proofs.lemmas.Bool.{cases_Bool, cond-true, cond-false}
use Rattle.vd_search_tree.specs.declared.shift.Shift.{Shift}
use Rattle.vd_space.specs.declared.problem.Problem.{Problem}
use Rattle.vd_space.specs.declared.problem.Use.{Use}
use Rattle.vd_space.specs.Costs.{Pair, total}
use Rattle.vd_space.specs.Bounds.{shifted_use, shifted_uses}
use Rattle.vd_space_prefix.specs.Naming.{numbers_from}

-- each item with its number
abbrev pub numbered : {X Y : Type 0} → (ℕ → X → Y) → ℕ → List X → List Y
numbered g first [] = []
numbered g first (x ∷ xs) = g first x ∷ numbered g (first + 1) xs

pub unnumbered : {X Y : Type 0} (g : X → Y) (first : ℕ) (xs : List X) → numbered (λ k. g) first xs ≡ map g xs
unnumbered g first [] = refl
unnumbered g first (x ∷ xs) = ap (λ ys. g x ∷ ys) (unnumbered g (first + 1) xs)

pub shifted_numbered : (problem : Problem) (shifts : List Shift) (first : ℕ) (us : List Use) → numbered (shifted_use problem shifts) first us ≡ shifted_uses problem shifts first us
shifted_numbered problem shifts first [] = refl
shifted_numbered problem shifts first (u ∷ us) = ap (λ ys. shifted_use problem shifts first u ∷ ys) (shifted_numbered problem shifts (first + 1) us)

module _ {X : Type 0} (test : X → Bool) where
  -- a test
  all_from : (P : X → Bool) (look : ℕ → Option X) (first : ℕ) (xs : List X) → ((k : ℕ) → look (first + k) ≡ slice_get xs k) → list_all (λ n. option_map_or P (look n) true) (numbers_from test first xs) ≡ list_all P (filter test xs)
  all_from P look first [] same = refl
  all_from P look first (x ∷ xs) same =
      let here : look first ≡ Some x = subst (λ k. look k ≡ Some x) (omega arith) (same 0) in
      let later : (k : ℕ) → look (first + 1 + k) ≡ slice_get xs k = λ k. subst (λ j. look j ≡ slice_get xs k) (omega arith) (same (suc k)) in
      let rest = all_from P look (first + 1) xs later in
      elim (cases_Bool (test x)) [
        | inl passes ↦
            ap (list_all (λ n. option_map_or P (look n) true)) (cond-true (test x) (first ∷ numbers_from test (first + 1) xs) (numbers_from test (first + 1) xs) passes)
            ∙ ap₂ (λ item tail. option_map_or P item true && tail) here rest
            ∙ sym (ap (list_all P) (cond-true (test x) (x ∷ filter test xs) (filter test xs) passes))
        | inr fails ↦
            ap (list_all (λ n. option_map_or P (look n) true)) (cond-false (test x) (first ∷ numbers_from test (first + 1) xs) (numbers_from test (first + 1) xs) fails)
            ∙ rest
            ∙ sym (ap (list_all P) (cond-false (test x) (x ∷ filter test xs) (filter test xs) fails))
      ]

  pub all_named : (P : X → Bool) (xs : List X) → list_all (λ n. option_map_or P (slice_get xs n) true) (numbers_from test 0 xs) ≡ list_all P (filter test xs)
  all_named P xs = all_from P (slice_get xs) 0 xs (λ k. ap (slice_get xs) (omega arith))

  -- a sum
  module _ {Y : Type 0} (names : Y → Bool) (g : ℕ → X → Y) (same : (k : ℕ) (x : X) → names (g k x) ≡ test x) (F : ℕ → ℤ) (f : Y → ℤ) where
    total_from : (first : ℕ) (xs : List X) → ((k : ℕ) (x : X) → slice_get xs k ≡ Some x → F (first + k) ≡ f (g (first + k) x)) → total F (numbers_from test first xs) ≡ total f (filter names (numbered g first xs))
    total_from first [] each = refl
    total_from first (x ∷ xs) each =
        let here : F first ≡ f (g first x) = subst (λ k. F k ≡ f (g k x)) (omega arith) (each 0 x refl) in
        let later : (k : ℕ) (y : X) → slice_get xs k ≡ Some y → F (first + 1 + k) ≡ f (g (first + 1 + k) y) = λ k y at. subst (λ j. F j ≡ f (g j y)) (omega arith) (each (suc k) y at) in
        let rest = total_from (first + 1) xs later in
        elim (cases_Bool (test x)) [
          | inl passes ↦
              let left = ap (total F) (cond-true (test x) (first ∷ numbers_from test (first + 1) xs) (numbers_from test (first + 1) xs) passes) in
              let right = ap (total f) (cond-true (names (g first x)) (g first x ∷ filter names (numbered g (first + 1) xs)) (filter names (numbered g (first + 1) xs)) (same first x ∙ passes)) in
              omega (arith, ints, left, right, here, rest)
          | inr fails ↦
              let left = ap (total F) (cond-false (test x) (first ∷ numbers_from test (first + 1) xs) (numbers_from test (first + 1) xs) fails) in
              let right = ap (total f) (cond-false (names (g first x)) (g first x ∷ filter names (numbered g (first + 1) xs)) (filter names (numbered g (first + 1) xs)) (same first x ∙ fails)) in
              omega (arith, ints, left, right, rest)
        ]

    pub total_named : (xs : List X) → ((k : ℕ) (x : X) → slice_get xs k ≡ Some x → F k ≡ f (g k x)) → total F (numbers_from test 0 xs) ≡ total f (filter names (numbered g 0 xs))
    total_named xs each = total_from 0 xs (λ k x at. subst (λ j. F j ≡ f (g j x)) (omega arith) (each k x at))
