-- Both bounds of a prefix are at most the cost of each valid list that it begins, and are the cost at a whole one.
use Rattle.std.proofs.Common.{◌≡◌, ℕ, ◌<◌, List, ◌++◌, length, refl, sym, ◌∙◌, subst, arith, ℤ, pos, negsuc, ◌≤ℤ◌, ◌<ℤ◌}
use Rattle.std.proofs.lemmas.Int.{ints}
use Rattle.std.specs.Prelude.{IsTrue}
use Rattle.vd_search_tree.specs.Trees.{IsBounded}
use Rattle.vd_space.specs.declared.problem.Problem.{Problem}
use Rattle.vd_search_tree.specs.declared.shift.Shift.{Shift}
use Rattle.vd_space.specs.Validity.{is_valid}
use Rattle.vd_space.specs.Costs.{ones, pairs, cost}
use Rattle.vd_space.specs.Bounds.{low, shifted, high, shifted_ones, shifted_pairs}
use Rattle.vd_space.specs.Spaces.{IsProblem, tree_of}
use Rattle.vd_space.proofs.Kept.{valid_kept, valid_listed}
use Rattle.vd_space.proofs.Least.{max_above, max_same}
use Rattle.vd_space.proofs.Terms.{sum_at, sum_low, sum_same}
use Rattle.vd_space.proofs.Valued.{terms_have}
use Rattle.vd_space.proofs.Shifted.{shifted_have, shifted_sum}

number_of : (z : ℤ) → pos 0 ≤ℤ z → z <ℤ pos 4294967296 → (number : ℕ) × (number < 4294967296) × (z ≡ pos number)
number_of (pos n) low high = (n, omega (arith, ints, high), refl)
number_of (negsuc n) low high = absurd (omega (arith, ints, low))

module _ (problem : Problem) (is : IsProblem problem) where
  pub low_below : (prefix rest : List ℕ) → length (prefix ++ rest) ≡ length problem.slots → IsTrue (is_valid problem (prefix ++ rest)) → low problem prefix ≤ℤ cost problem (prefix ++ rest)
  unfolding sum_at
  low_below prefix rest full valid = sum_low problem (ones problem) (pairs problem) prefix rest (terms_have problem is (prefix ++ rest) full valid)

  pub low_whole : (list : List ℕ) → length list ≡ length problem.slots → IsTrue (is_valid problem list) → low problem list ≡ cost problem list
  unfolding sum_at
  low_whole list full valid = sum_same problem (ones problem) (pairs problem) list (terms_have problem is list full valid)

  module _ (shifts : List Shift) where
    shifted_below : (prefix rest : List ℕ) → length (prefix ++ rest) ≡ length problem.slots → IsTrue (is_valid problem (prefix ++ rest)) → shifted problem shifts prefix ≤ℤ cost problem (prefix ++ rest)
    shifted_below prefix rest full valid =
        let least = sum_low problem (shifted_ones problem shifts) (shifted_pairs problem shifts) prefix rest (shifted_have problem is (prefix ++ rest) full valid shifts) in
        let same = shifted_sum problem is (prefix ++ rest) full valid shifts in
        subst (λ c. shifted problem shifts prefix ≤ℤ c) same least

    shifted_whole : (list : List ℕ) → length list ≡ length problem.slots → IsTrue (is_valid problem list) → shifted problem shifts list ≡ cost problem list
    shifted_whole list full valid =
        sum_same problem (shifted_ones problem shifts) (shifted_pairs problem shifts) list (shifted_have problem is list full valid shifts)
        ∙ shifted_sum problem is list full valid shifts

    pub high_below : (prefix rest : List ℕ) → length (prefix ++ rest) ≡ length problem.slots → IsTrue (is_valid problem (prefix ++ rest)) → high problem shifts prefix ≤ℤ cost problem (prefix ++ rest)
    high_below prefix rest full valid =
        max_above (low problem prefix) (shifted problem shifts prefix) (cost problem (prefix ++ rest)) (low_below prefix rest full valid) (shifted_below prefix rest full valid)

    pub high_whole : (list : List ℕ) → length list ≡ length problem.slots → IsTrue (is_valid problem list) → high problem shifts list ≡ cost problem list
    high_whole list full valid = max_same (low problem list) (shifted problem shifts list) (cost problem list) (low_whole list full valid) (shifted_whole list full valid)

    pub tree_bounded : IsBounded (tree_of problem shifts)
    tree_bounded = record {
      closed = valid_kept problem;
      listed = valid_listed problem;
      below = λ prefix rest whole. subst (λ c. high problem shifts prefix ≤ℤ c) (sym (high_whole (prefix ++ rest) whole.full whole.valid)) (high_below prefix rest whole.full whole.valid);
      fits = λ list whole. let small = is.fits list whole.full whole.valid in let fits = number_of (cost problem list) small.0 small.1 in (fits.0, fits.1, high_whole list whole.full whole.valid ∙ fits.2);
    }
