-- What no whole list costs less than.
use Rattle.std.proofs.Common.{ℕ, ◌≤◌, max, Some, [], arith, pos}
use Rattle.std.proofs.lemmas.Int.{ints}
use Rattle.vd_search_tree.specs.Trees.{Tree, IsBounded, AtLeast}
use Rattle.vd_search.specs.Answers.{IsFloor}
use Rattle.vd_search.specs.Writing.{NoneLess}

max_within : (a b c : ℕ) → a ≤ c → b ≤ c → max a b ≤ c
max_within a b c one two = grind arith

-- no list costs less than nothing
pub no_floor : (tree : Tree) → IsFloor tree 0
no_floor tree bounded list whole = let fits = bounded.fits list whole in let is = fits.2 in omega (arith, ints, is)

-- nor than the greater of two floors
pub greater_floor : (tree : Tree) (bound floor : ℕ) → IsBounded tree → AtLeast tree (pos bound) [] → NoneLess tree (Some floor) → AtLeast tree (pos (max bound floor)) []
greater_floor tree bound floor bounded one two rest whole =
    let fits = bounded.fits rest whole in
    let is = fits.2 in
    let above_one = one rest whole in
    let above_two = two rest whole in
    let low = max_within bound floor fits.0 (omega (arith, ints, above_one, is)) (omega (arith, ints, above_two, is)) in
    omega (arith, ints, low, is)
