-- The minimal sets of a formula, by which it is printed.
use Rattle.std.specs.Prelude.{◌≡◌, ℕ, ◌^◌, ◌<◌, Bool, not, ◌&&◌, IsTrue, List, Contains, filter}
use Rattle.std.specs.List.{list_all, range_with_len}
use Rattle.std.specs.List.Sorted.{IsStrictlyIncreasing}
use Rattle.vd_formula.specs.TruthTable.{TruthTable, at, is_subset, sets}

-- true at the set, and at none of its proper subsets, which have smaller numbers
abbrev pub is_minimal : TruthTable → ℕ → Bool
is_minimal f set = at f set && list_all (λ smaller. not (is_subset smaller set && at f smaller)) (range_with_len 0 set)

-- the minimal sets in order of their numbers
abbrev pub minimal_sets_of : TruthTable → List ℕ
minimal_sets_of f = filter (is_minimal f) (sets f.names)

-- Sets in order of their numbers that tell a formula which is closed under larger sets:
-- it is true at the listed sets, every set at which it is true contains one of them, and none of them contains another.
pub record AreMinimalSets (f : TruthTable) (list : List ℕ) : Type 0 where
  pub in_order : IsStrictlyIncreasing list
  pub true_there : (set : ℕ) → Contains list set → IsTrue (at f set)
  pub covering : (set : ℕ) → set < 2 ^ f.names → IsTrue (at f set) → (minimal : ℕ) × (Contains list minimal × IsTrue (is_subset minimal set))
  pub apart : (one other : ℕ) → Contains list one → Contains list other → IsTrue (is_subset one other) → one ≡ other
