-- The bound by arcs is at most the cost of each valid list that a prefix begins, and is the cost at a whole one.
use Rattle.std.proofs.Common.{◌≡◌, ℕ, ◌*◌, ◌<◌, ◌≤◌, min, List, [], ◌++◌, length, map, refl, sym, ap, ◌∙◌, subst, arith, ℤ, pos, negsuc, ◌*ℤ◌, ◌≤ℤ◌, ◌<ℤ◌}
use Rattle.std.proofs.lemmas.Int.{ints}
use Rattle.std.specs.Prelude.{IsTrue}
use Rattle.std.specs.Int.{div_ceil}
use Rattle.vd_search_tree.specs.Trees.{IsBounded}
use Rattle.vd_search_tree.specs.declared.shift.Shift.{Shift}
use Rattle.vd_space.specs.declared.problem.Problem.{Problem}
use Rattle.vd_space.specs.Validity.{is_valid}
use Rattle.vd_space.specs.Costs.{cost}
use Rattle.vd_space.specs.Bounds.{high}
use Rattle.vd_space.specs.Spaces.{IsProblem}
use Rattle.vd_space.proofs.Kept.{valid_kept, valid_listed}
use Rattle.vd_space.proofs.Least.{max_above, max_same}
use Rattle.vd_space.proofs.Bounded.{high_below, high_whole}
use Rattle.vd_space.specs.Points.{points}
use Rattle.vd_space.specs.Arcs.{arcs}
use Rattle.vd_space.specs.Network.{network_one, network_pairs, by_arcs, units, network_high, network_tree}
use Rattle.vd_space.proofs.CostNetworkTerms.{network_least, sum_low, sum_same}
use Rattle.vd_space.proofs.CostNetworkShifted.{all_have, shifts_cancel}
use Rattle.vd_space.proofs.Summed.{plain_sum}

number_of : (z : ℤ) → pos 0 ≤ℤ z → z <ℤ pos 4294967296 → (number : ℕ) × (number < 4294967296) × (z ≡ pos number)
number_of (pos n) low high = (n, omega (arith, ints, high), refl)
number_of (negsuc n) low high = absurd (omega (arith, ints, low))

-- ---- units

ceil_low : (n c : ℕ) → n ≤ c * 256 → div_ceil n 256 ≤ c
ceil_low n c low = omega (arith, low)

ceil_same : (c : ℕ) → div_ceil (c * 256) 256 ≡ c
ceil_same c = omega arith

units_low : (z : ℤ) (c : ℕ) → z ≤ℤ (pos c *ℤ pos 256) → units z ≤ℤ pos c
units_low (pos n) c low = let fewer = ceil_low n c (omega (arith, ints, low)) in let capped : min (div_ceil n 256) 4294967296 ≤ c = omega (arith, fewer) in omega (arith, ints, capped)
units_low (negsuc n) c low = omega (arith, ints)

units_same : (z : ℤ) (c : ℕ) → c < 4294967296 → z ≡ pos c *ℤ pos 256 → units z ≡ pos c
units_same z c small same =
    let capped : min c 4294967296 ≡ c = omega (arith, small) in
    ap units same ∙ ap (λ n. pos (min n 4294967296)) (ceil_same c) ∙ ap pos capped

module _ (problem : Problem) (is : IsProblem problem) (shifts : List Shift) where
  -- in parts
  network_below : (prefix rest : List ℕ) → length (prefix ++ rest) ≡ length problem.slots → IsTrue (is_valid problem (prefix ++ rest)) → by_arcs problem shifts prefix ≤ℤ (cost problem (prefix ++ rest) *ℤ pos 256)
  unfolding network_least
  network_below prefix rest full valid =
      let list = prefix ++ rest in
      let least = sum_low problem (map (network_one problem shifts) (points problem)) (network_pairs shifts 0 (arcs problem)) prefix rest valid (all_have problem is list full valid shifts) in
      subst (λ c. by_arcs problem shifts prefix ≤ℤ c) (shifts_cancel problem is list full valid shifts ∙ plain_sum problem is list full valid) least

  network_whole : (list : List ℕ) → length list ≡ length problem.slots → IsTrue (is_valid problem list) → by_arcs problem shifts list ≡ cost problem list *ℤ pos 256
  unfolding network_least
  network_whole list full valid =
      sum_same problem (map (network_one problem shifts) (points problem)) (network_pairs shifts 0 (arcs problem)) list valid (all_have problem is list full valid shifts)
      ∙ shifts_cancel problem is list full valid shifts
      ∙ plain_sum problem is list full valid

  -- in units
  pub units_below : (prefix rest : List ℕ) → length (prefix ++ rest) ≡ length problem.slots → IsTrue (is_valid problem (prefix ++ rest)) → units (by_arcs problem shifts prefix) ≤ℤ cost problem (prefix ++ rest)
  units_below prefix rest full valid =
      let small = is.fits (prefix ++ rest) full valid in
      let fits = number_of (cost problem (prefix ++ rest)) small.0 small.1 in
      let least = subst (λ c. by_arcs problem shifts prefix ≤ℤ (c *ℤ pos 256)) fits.2 (network_below prefix rest full valid) in
      subst (λ c. units (by_arcs problem shifts prefix) ≤ℤ c) (sym fits.2) (units_low (by_arcs problem shifts prefix) fits.0 least)

  pub units_whole : (list : List ℕ) → length list ≡ length problem.slots → IsTrue (is_valid problem list) → units (by_arcs problem shifts list) ≡ cost problem list
  units_whole list full valid =
      let small = is.fits list full valid in
      let fits = number_of (cost problem list) small.0 small.1 in
      units_same (by_arcs problem shifts list) fits.0 fits.1 (network_whole list full valid ∙ ap (λ c. c *ℤ pos 256) fits.2) ∙ sym fits.2

  pub network_high_below : (prefix rest : List ℕ) → length (prefix ++ rest) ≡ length problem.slots → IsTrue (is_valid problem (prefix ++ rest)) → network_high problem shifts prefix ≤ℤ cost problem (prefix ++ rest)
  network_high_below prefix rest full valid =
      max_above (high problem [] prefix) (units (by_arcs problem shifts prefix)) (cost problem (prefix ++ rest)) (high_below problem is [] prefix rest full valid) (units_below prefix rest full valid)

  pub network_high_whole : (list : List ℕ) → length list ≡ length problem.slots → IsTrue (is_valid problem list) → network_high problem shifts list ≡ cost problem list
  network_high_whole list full valid =
      max_same (high problem [] list) (units (by_arcs problem shifts list)) (cost problem list) (high_whole problem is [] list full valid) (units_whole list full valid)

  pub network_tree_bounded : IsBounded (network_tree problem shifts)
  network_tree_bounded = record {
    closed = valid_kept problem;
    listed = valid_listed problem;
    below = λ prefix rest whole. subst (λ c. network_high problem shifts prefix ≤ℤ c) (sym (network_high_whole (prefix ++ rest) whole.full whole.valid)) (network_high_below prefix rest whole.full whole.valid);
    fits = λ list whole. let small = is.fits list whole.full whole.valid in let fits = number_of (cost problem list) small.0 small.1 in (fits.0, fits.1, network_high_whole list whole.full whole.valid ∙ fits.2);
  }
