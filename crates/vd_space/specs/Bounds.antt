-- Bounds below the cost of all valid lists that begin with a prefix.
use Rattle.std.specs.Prelude.{ℕ, zero, suc, ◌+◌, Bool, ◌&&◌, ◌==◌, if◌then◌else◌, Option, Some, None, unwrap_or, option_map, List, [], ◌∷◌, ◌++◌, map, length, slice_get, ℤ, pos, neg_ℤ, ◌+ℤ◌, ◌-ℤ◌}
use Rattle.std.specs.Int.{int_min, int_max}
use Rattle.std.specs.Option.{option_map_or}
use Rattle.vd_space.specs.declared.problem.Problem.{Problem}
use Rattle.vd_space.specs.declared.problem.Use.{Use}
use Rattle.vd_space.specs.declared.problem.Output.{Output}
use Rattle.vd_search_tree.specs.declared.shift.Shift.{Shift}
use Rattle.vd_space.specs.Validity.{protocols, is_candidate}
use Rattle.vd_space.specs.Costs.{One, Pair, operation_value, output_value, use_value, index_term, total, slots_of, ones, pairs, guards_total}

-- what a slot may stand at under a prefix: the one protocol where it is decided, else its candidates
abbrev pub may_stand : Problem → List ℕ → ℕ → ℕ → Bool
may_stand problem prefix slot p = option_map_or (λ q. q == p) (slice_get prefix slot) (is_candidate problem slot p)

-- the least of the numbers below n, of which some are left out
abbrev pub lesser : Option ℤ → Option ℤ → Option ℤ
lesser None b = b
lesser (Some a) None = Some a
lesser (Some a) (Some b) = Some (int_min a b)

abbrev pub least_below : ℕ → (ℕ → Option ℤ) → Option ℤ
least_below zero value = None
least_below (suc n) value = lesser (least_below n value) (value n)

abbrev pub only_if : Bool → Option ℤ → Option ℤ
only_if test value = if test then value else None

-- over what a slot may stand at
abbrev pub least_at : Problem → List ℕ → ℕ → (ℕ → Option ℤ) → Option ℤ
least_at problem prefix slot value = least_below (length (protocols problem)) (λ p. only_if (may_stand problem prefix slot p) (value p))

-- a term with nothing left
abbrev pub nothing_left : ℤ
nothing_left = pos 1000000000

abbrev pub least_one : Problem → List ℕ → One → ℤ
least_one problem prefix one = unwrap_or (least_at problem prefix one.slot one.value) nothing_left

abbrev pub least_pair : Problem → List ℕ → Pair → ℤ
least_pair problem prefix pair = unwrap_or (least_at problem prefix pair.first (λ p. least_at problem prefix pair.second (pair.value p))) nothing_left

-- the sum of the least values of terms, and of the guards' terms for the hosts that are known to take part
abbrev pub least_sum : Problem → List One → List Pair → List ℕ → ℤ
least_sum problem ones pairs prefix = total (least_one problem prefix) ones +ℤ total (least_pair problem prefix) pairs +ℤ guards_total problem (least_one problem prefix) prefix

-- with each term on its own
abbrev pub low : Problem → List ℕ → ℤ
low problem prefix = least_sum problem (ones problem) (pairs problem) prefix

-- ---- shifts

-- what a shift puts on the term of its slot, and takes from the term of its use
abbrev pub signed : Shift → ℤ
signed shift = if shift.add then pos shift.amount else neg_ℤ (pos shift.amount)

abbrev pub side_of : Use → ℕ → ℕ
side_of u side = if side == 0 then u.source.0 else u.target.0

abbrev pub slot_shift : Problem → ℕ → ℕ → Shift → ℤ
slot_shift problem slot p shift = option_map_or (λ u. if side_of u shift.side == slot && shift.proto == p then signed shift else pos 0) (slice_get problem.uses shift.at) (pos 0)

abbrev pub use_shift : ℕ → ℕ → ℕ → Shift → ℤ
use_shift at p q shift = if shift.at == at && shift.proto == (if shift.side == 0 then p else q) then signed shift else pos 0

abbrev pub add : Option ℤ → Option ℤ → Option ℤ
add None b = None
add (Some a) None = None
add (Some a) (Some b) = Some (a +ℤ b)

-- the outputs of a slot, together
abbrev pub outputs_value : Problem → ℕ → ℕ → List Output → Option ℤ
outputs_value problem slot p [] = Some (pos 0)
outputs_value problem slot p (o ∷ os) = if o.slot.0 == slot then add (output_value problem o p) (outputs_value problem slot p os) else outputs_value problem slot p os

-- the operation and the outputs of a slot are one term here
abbrev pub shifted_one : Problem → List Shift → ℕ → One
shifted_one problem shifts slot = record {
  slot = slot;
  value = λ p. option_map (λ v. v +ℤ total (slot_shift problem slot p) shifts) (add (operation_value problem slot p) (outputs_value problem slot p problem.outputs));
}

abbrev pub shifted_use : Problem → List Shift → ℕ → Use → Pair
shifted_use problem shifts at u = record {
  first = u.source.0;
  second = u.target.0;
  value = λ p q. option_map (λ v. v -ℤ total (use_shift at p q) shifts) (use_value problem u p q);
}

-- uses are numbered in program order
abbrev pub shifted_uses : Problem → List Shift → ℕ → List Use → List Pair
shifted_uses problem shifts at [] = []
shifted_uses problem shifts at (u ∷ us) = shifted_use problem shifts at u ∷ shifted_uses problem shifts (at + 1) us

abbrev pub shifted_ones : Problem → List Shift → List One
shifted_ones problem shifts = map (shifted_one problem shifts) (slots_of problem)

abbrev pub shifted_pairs : Problem → List Shift → List Pair
shifted_pairs problem shifts = shifted_uses problem shifts 0 problem.uses ++ map (index_term problem) problem.indexes

abbrev pub shifted : Problem → List Shift → List ℕ → ℤ
shifted problem shifts prefix = least_sum problem (shifted_ones problem shifts) (shifted_pairs problem shifts) prefix

-- ---- the greater of the two bounds

abbrev pub high : Problem → List Shift → List ℕ → ℤ
high problem shifts prefix = int_max (low problem prefix) (shifted problem shifts prefix)
