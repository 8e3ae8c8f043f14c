-- Where no choice can be valid: the first use, index or guard for which no places are left.
use Rattle.std.specs.Prelude.{ℕ, ◌+◌, Bool, not, if◌then◌else◌, nat_eq, is_some, Option, Some, None, List, [], ◌∷◌, filter, length, map, slice_index_or, slice_set}
use Rattle.std.specs.List.{find, list_all, list_any, range_with_len}
use Rattle.vd_base.specs.declared.ids.SlotId.{SlotId}
use Rattle.vd_space.specs.declared.problem.Problem.{Problem}
use Rattle.vd_space.specs.declared.problem.Making.{Making}
use Rattle.vd_space.specs.declared.problem.Use.{Use}
use Rattle.vd_space.specs.declared.problem.Guard.{Guard}
use Rattle.vd_space.specs.declared.problem.Index.{Index}
use Rattle.vd_space.specs.Validity.{all_hosts, can_stand, holder_told, move, protocols}
use Rattle.vd_diag_terminal.specs.declared.diag_choice.left.Walked.{Walked}
use Rattle.vd_diag_terminal.specs.declared.diag_choice.stuck.Stuck.{Stuck}
use Rattle.vd_diag_terminal.specs.declared.diag_choice.stuck.Stuck.TheVariants as stuck

-- ---- places that are left to each slot

abbrev pub candidates : Problem → Making → List ℕ
candidates problem making = filter (can_stand problem making) (range_with_len 0 (length (protocols problem)))

abbrev pub all_candidates : Problem → List (List ℕ)
all_candidates problem = map (candidates problem) problem.slots

abbrev pub left_at : List (List ℕ) → SlotId → List ℕ
left_at left x = slice_index_or left x.0 []

-- a word comes to the place from one of these
abbrev pub comes_to : Problem → List ℕ → ℕ → Bool
comes_to problem sources q = list_any (λ p. is_some (move problem p q)) sources

-- by a use its target keeps the places to which a word of its source comes
abbrev pub narrowed : Problem → List (List ℕ) → Use → List (List ℕ)
narrowed problem left u = slice_set left u.target.0 (filter (comes_to problem (left_at left u.source)) (left_at left u.target))

abbrev pub is_empty : List ℕ → Bool
is_empty places = nat_eq (length places) 0

-- the places that are left by uses, up to the first one that leaves its target none
abbrev pub walked : Problem → List (List ℕ) → List Use → (number : ℕ) → Walked
walked problem left [] number = record { left = left; stuck = None }
walked problem left (u ∷ us) number =
    if is_empty (left_at (narrowed problem left u) u.target) then record { left = narrowed problem left u; stuck = Some number }
    else walked problem (narrowed problem left u) us (number + 1)

-- ---- what hosts are told

-- at one of the places that are left to the one slot each host may read the other
abbrev pub can_be_told : Problem → List (List ℕ) → (told kept : SlotId) → Bool
can_be_told problem left told kept = list_any (λ p. list_all (holder_told problem [] told p) (all_hosts problem)) (left_at left kept)

-- the number of the first index that no place of its array tells
abbrev pub first_index : Problem → List (List ℕ) → List Index → (number : ℕ) → Option ℕ
first_index problem left [] number = None
first_index problem left (index ∷ indexes) number =
    if can_be_told problem left index.index index.array then first_index problem left indexes (number + 1) else Some number

-- the first slot of the branches of which no place tells the guard
abbrev pub first_slot : Problem → List (List ℕ) → Guard → Option SlotId
first_slot problem left guard = find (λ kept. not (can_be_told problem left guard.slot kept)) guard.slots

abbrev pub guard_or : (number : ℕ) → Option SlotId → Option Stuck → Option Stuck
guard_or number None later = later
guard_or number (Some kept) later = Some (stuck.Guard number kept)

abbrev pub first_guard : Problem → List (List ℕ) → List Guard → (number : ℕ) → Option Stuck
first_guard problem left [] number = None
first_guard problem left (guard ∷ guards) number = guard_or number (first_slot problem left guard) (first_guard problem left guards (number + 1))

-- ---- the first of all

abbrev pub index_or : Option ℕ → Option Stuck → Option Stuck
index_or None later = later
index_or (Some number) later = Some (stuck.Index number)

abbrev pub after_uses : Problem → List (List ℕ) → Option ℕ → Option Stuck
after_uses problem left (Some number) = Some (stuck.Use number)
after_uses problem left None = index_or (first_index problem left problem.indexes 0) (first_guard problem left problem.guards 0)

abbrev pub stuck_of : Problem → Walked → Option Stuck
stuck_of problem w = after_uses problem w.left w.stuck

-- the first use, else the first index, else the first guard
abbrev pub first_stuck : Problem → Option Stuck
first_stuck problem = stuck_of problem (walked problem (all_candidates problem) problem.uses 0)
