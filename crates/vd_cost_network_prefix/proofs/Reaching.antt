-- Numbers of a range that pass a test.
use Rattle.std.proofs.Common.{◌≡◌, ℕ, zero, suc, ◌+◌, ◌<◌, ◌≤◌, Bool, false, cond, [], ◌∷◌, ◌++◌, filter, sym, ap, ◌∙◌, arith, inl, inr}
use Rattle.std.specs.Prelude.{◌==◌}
use Rattle.std.specs.List.{list_any, range_with_len}
use Rattle.std.proofs.lemmas.Bool.{cases_Bool, cases_eq, cond-true, cond-false, or_parts, eq-eqb, true≢false}
use Rattle.std.proofs.lemmas.List.{map-id}
use Rattle.std.proofs.lemmas.List.Elements.{filter-append}
use Rattle.std.proofs.lemmas.List.FromFn.{map-range_with_len_more}

range_more : (n : ℕ) → range_with_len 0 (n + 1) ≡ range_with_len 0 n ++ n ∷ []
range_more n = sym (map-id (range_with_len 0 (n + 1))) ∙ map-range_with_len_more (λ k. k) 0 n n (omega arith) ∙ ap (λ front. front ++ n ∷ []) (map-id (range_with_len 0 n))

pub filter_more : (test : ℕ → Bool) (n : ℕ) → filter test (range_with_len 0 (n + 1)) ≡ filter test (range_with_len 0 n) ++ cond (test n) (n ∷ []) []
filter_more test n = ap (filter test) (range_more n) ∙ filter-append test (range_with_len 0 n) (n ∷ [])

module _ (test : ℕ → Bool) (point : ℕ) where
  unlisted_from : (first n : ℕ) → first ≤ point → point < first + n → list_any (λ k. point == k) (filter test (range_with_len first n)) ≡ false → test point ≡ false
  unlisted_from first zero low high none = absurd (omega (arith, low, high))
  unlisted_from first (suc n) low high none =
      let rest = filter test (range_with_len (first + 1) n) in
      elim (cases_Bool (test first)) [
        | inl passes ↦
            let parts = or_parts (point == first) (list_any (λ k. point == k) rest) (sym (ap (list_any (λ k. point == k)) (cond-true (test first) (first ∷ rest) rest passes)) ∙ none) in
            elim (cases_eq point first) [
              | inl here ↦ absurd (true≢false (sym (eq-eqb point first here) ∙ parts.0))
              | inr later ↦ unlisted_from (first + 1) n (omega (arith, low, later)) (omega (arith, high)) parts.1
            ]
        | inr fails ↦
            elim (cases_eq point first) [
              | inl here ↦ ap test here ∙ fails
              | inr later ↦ unlisted_from (first + 1) n (omega (arith, low, later)) (omega (arith, high)) (sym (ap (list_any (λ k. point == k)) (cond-false (test first) (first ∷ rest) rest fails)) ∙ none)
            ]
      ]

  -- what is not among the numbers that pass does not pass
  pub unlisted : (n : ℕ) → point < n → list_any (λ k. point == k) (filter test (range_with_len 0 n)) ≡ false → test point ≡ false
  unlisted n low none = unlisted_from 0 n (omega arith) (omega (arith, low)) none
