-- The meaning of formulas over names: at which sets of names they are true.
use Rattle.std.specs.Prelude.{◌≡◌, ℕ, zero, suc, ◌+◌, ◌*◌, ◌^◌, ◌<◌, ◌≤◌, Bool, true, false, not, ◌&&◌, ◌||◌, ◌==◌, if◌then◌else◌, ◌↔◌, IsTrue, List, bit_and}
use Rattle.std.specs.Int.{bit_at}
use Rattle.std.specs.List.{list_all, range_with_len}
use Rattle.vd_base.specs.Limits.{most_principals}

-- A set of names is told by its number: bit i of it is 1 exactly where name number i is in the set.
abbrev pub has : ℕ → ℕ → Bool
has set name = bit_at set name == 1

-- each name of `small` is in `large`
abbrev pub is_subset : ℕ → ℕ → Bool
is_subset small large = bit_and small large == small

-- the numbers of all sets of n names
abbrev pub sets : ℕ → List ℕ
sets n = range_with_len 0 (2 ^ n)

-- A formula over so many names: bit S of `truths` is 1 exactly where it is true at the set number S.
pub record TruthTable : Type 0 where
  pub names : ℕ
  pub truths : ℕ

-- its truth at a set
abbrev pub at : TruthTable → ℕ → Bool
at formula set = has formula.truths set

-- the word whose bits below n tell where the test holds
abbrev pub word_where : (ℕ → Bool) → ℕ → ℕ
word_where test zero = 0
word_where test (suc n) = (if test n then 1 else 0) * 2 ^ n + word_where test n

-- the formula over n names that is true at the sets that pass the test
abbrev pub formula_where : ℕ → (ℕ → Bool) → TruthTable
formula_where n test = record { names = n; truths = word_where test (2 ^ n) }

-- true at every set
unfoldable pub any_of : ℕ → TruthTable
any_of n = formula_where n (λ set. true)

-- true at no set
unfoldable pub never_of : ℕ → TruthTable
never_of n = formula_where n (λ set. false)

-- true at the sets that have the name
unfoldable pub name_of : ℕ → ℕ → TruthTable
name_of place n = formula_where n (λ set. has set place)

-- the conjunction
unfoldable pub both_of : TruthTable → TruthTable → TruthTable
both_of f g = formula_where f.names (λ set. at f set && at g set)

-- the disjunction
unfoldable pub either_of : TruthTable → TruthTable → TruthTable
either_of f g = formula_where f.names (λ set. at f set || at g set)

-- The weakest formula whose conjunction with f acts for g: true at the sets
-- such that g is true at every set that contains it, itself included, at which f is true.
unfoldable pub implies_of : TruthTable → TruthTable → TruthTable
implies_of f g = formula_where f.names (λ set. list_all (λ larger. not (is_subset set larger && at f larger) || at g larger) (sets f.names))

-- g is true at every set at which f is true
abbrev pub ActsFor : TruthTable → TruthTable → Type 0
ActsFor f g = (set : ℕ) → set < 2 ^ f.names → IsTrue (at f set) → IsTrue (at g set)

-- the test of that
abbrev pub acts : TruthTable → TruthTable → Bool
acts f g = list_all (λ set. not (at f set) || at g set) (sets f.names)

-- where it is true at a set, it is true at all larger sets
abbrev pub IsMonotone : TruthTable → Type 0
IsMonotone f = (set larger : ℕ) → larger < 2 ^ f.names → IsTrue (is_subset set larger) → IsTrue (at f set) → IsTrue (at f larger)

-- what every formula keeps
pub record IsFormula (f : TruthTable) : Type 0 where
  pub few_names : f.names ≤ most_principals
  pub no_other_bits : f.truths < 2 ^ (2 ^ f.names)
  pub monotone : IsMonotone f

-- of the formulas over the same names, those whose conjunction with f acts for g are those that act for h
abbrev pub IsWeakestWith : TruthTable → TruthTable → TruthTable → Type 0
IsWeakestWith f g h = (x : TruthTable) → IsFormula x → x.names ≡ f.names → (ActsFor (both_of x f) g ↔ ActsFor x h)
