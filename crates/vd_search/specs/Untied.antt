-- Trees of which more is known than their bounds say.
use Rattle.std.specs.Prelude.{ℕ, suc, Bool, true, ◌&&◌, ◌==◌, ◌≢◌, ◌⊎◌, if◌then◌else◌, List, pos, nat_eq}
use Rattle.std.specs.List.{list_any}
use Rattle.std.specs.Cmp.Lexicographic.{pointwise}
use Rattle.std.specs.Ordering.{int_eq}
use Rattle.vd_search_tree.specs.Trees.{Tree}
use Rattle.vd_bound.specs.Marks.{IsLeastCost}
use Rattle.vd_search.specs.Answers.{Exceeds}
use Rattle.vd_search.specs.declared.answers.Answer.{Answer}
use Rattle.vd_search.specs.declared.answers.Answer.TheVariants.{Found, Empty}

-- the prefix is one of those
abbrev pub is_among : List (List ℕ) → List ℕ → Bool
is_among prefixes prefix = list_any (λ other. pointwise nat_eq other prefix) prefixes

-- The tree whose bound is one more than `most` where it is `most` and the prefix is one of those that are passed over.
abbrev pub untied : Tree → ℕ → List (List ℕ) → Tree
untied tree most passed = record {
  slots = tree.slots;
  choices = tree.choices;
  valid = tree.valid;
  bound = λ prefix. if int_eq (tree.bound prefix) (pos most) && is_among passed prefix then pos (suc most) else tree.bound prefix;
}

-- it says of no other least cost than that
abbrev pub is_at_cost : ℕ → Answer → Bool
is_at_cost most (Found list cost marks) = cost == most
is_at_cost most (Empty marks) = true

-- Why a search is spent: the budget is, or the least cost is another.
abbrev pub WhySpent : Tree → ℕ → List (List ℕ) → ℕ → Type 0
WhySpent tree most passed budget = Exceeds (untied tree most passed) budget ⊎ ((cost : ℕ) × IsLeastCost tree cost × (cost ≢ most))
