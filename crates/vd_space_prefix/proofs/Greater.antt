-- The bound of a prefix is the greater of its two parts, and what both have.
use Rattle.std.proofs.Common.{◌≡◌, ℕ, List, map, ap₂, ◌∙◌, arith, ℤ, ◌+ℤ◌, FitsSigned, to_z, of_z, w64}
use Rattle.std.specs.Int.{int_max}
use Rattle.std.proofs.lemmas.Int.{ints, int_max_is}
use Rattle.vd_search_tree.specs.declared.shift.Shift.{Shift}
use Rattle.vd_space.specs.declared.problem.Problem.{Problem}
use Rattle.vd_space.specs.Costs.{use_term, index_term}
use Rattle.vd_space.specs.Bounds.{low, shifted, high, least_pair, shifted_uses}
use Rattle.vd_space.proofs.Front.{total_append}
use Rattle.vd_space_prefix.specs.declared.tables.Sums.{Sums}
use Rattle.vd_space_prefix.specs.Transfers.{IsWithin}
use Rattle.vd_space_prefix.specs.Tables.{low_part, shifted_part, common_part, AreSumsOf, AreSmallAt}

module _ (problem : Problem) (shifts : List Shift) (prefix : List ℕ) where
  low_is : low problem prefix ≡ low_part problem prefix +ℤ common_part problem prefix
  low_is = let split = total_append (least_pair problem prefix) (map (use_term problem) problem.uses) (map (index_term problem) problem.indexes) in omega (arith, ints, split)

  shifted_is : shifted problem shifts prefix ≡ shifted_part problem shifts prefix +ℤ common_part problem prefix
  shifted_is = let split = total_append (least_pair problem prefix) (shifted_uses problem shifts 0 problem.uses) (map (index_term problem) problem.indexes) in omega (arith, ints, split)

  high_is : high problem shifts prefix ≡ int_max (low_part problem prefix) (shifted_part problem shifts prefix) +ℤ common_part problem prefix
  high_is =
      let first = low_is in
      let second = shifted_is in
      let whole = int_max_is (low problem prefix) (shifted problem shifts prefix) in
      let part = int_max_is (low_part problem prefix) (shifted_part problem shifts prefix) in
      omega (arith, ints, first, second, whole, part)

  -- computed in 64 bits
  pub max_sum : (sums : Sums) (greater : ℤ) → AreSumsOf problem shifts prefix sums → AreSmallAt problem shifts prefix → greater ≡ int_max (to_z w64 (of_z w64 sums.low)) (to_z w64 (of_z w64 sums.shifted))
      → FitsSigned w64 (to_z w64 (of_z w64 greater) +ℤ to_z w64 (of_z w64 sums.common)) × (to_z w64 (of_z w64 (to_z w64 (of_z w64 greater) +ℤ to_z w64 (of_z w64 sums.common))) ≡ high problem shifts prefix)
  max_sum sums greater are small is =
      let whole = high_is in
      let part = int_max_is (low_part problem prefix) (shifted_part problem shifts prefix) in
      let computed = int_max_is (to_z w64 (of_z w64 sums.low)) (to_z w64 (of_z w64 sums.shifted)) in
      let low_fits : to_z w64 (of_z w64 sums.low) ≡ low_part problem prefix = omega (arith, ints, are.low, small.low.low, small.low.high) in
      let shifted_fits : to_z w64 (of_z w64 sums.shifted) ≡ shifted_part problem shifts prefix = omega (arith, ints, are.shifted, small.shifted.low, small.shifted.high) in
      let top : greater ≡ int_max (low_part problem prefix) (shifted_part problem shifts prefix) = is ∙ ap₂ int_max low_fits shifted_fits in
      let same : to_z w64 (of_z w64 greater) +ℤ to_z w64 (of_z w64 sums.common) ≡ high problem shifts prefix =
      omega (arith, ints, top, part, whole, are.common, small.common.low, small.common.high, small.low.low, small.low.high, small.shifted.low, small.shifted.high) in
      let bounds : IsWithin 4611686018427387904 (high problem shifts prefix) = record {
        low = omega (arith, ints, part, whole, small.common.low, small.common.high, small.low.low, small.low.high, small.shifted.low, small.shifted.high);
        high = omega (arith, ints, part, whole, small.common.low, small.common.high, small.low.low, small.low.high, small.shifted.low, small.shifted.high);
      } in
      (omega (arith, ints, same, bounds.low, bounds.high), omega (arith, ints, same, bounds.low, bounds.high))
