-- What is decided of each point.
use Rattle.std.proofs.Common.{◌≡◌, ℕ, ◌+◌, ◌-◌, ◌<◌, ◌≤◌, Bool, true, false, Option, Some, None, List, length, get_or, sym, ap, ◌∙◌, subst, arith, inl, inr, slice_get}
use Rattle.std.specs.Prelude.{is_some, if◌then◌else◌}
use Rattle.std.specs.List.{list_all}
use Rattle.std.specs.Option.{option_map_or}
use Rattle.std.proofs.lemmas.Bool.{cases_lt}
use Rattle.std.proofs.lemmas.List.{get_or_past}
use Rattle.std.proofs.lemmas.List.FromFn.{fill_by_all}
use Rattle.std.proofs.lemmas.Option.{slice_get_past, slice_get_cases}
use Rattle.vd_base.specs.declared.ids.SlotId.{SlotId}
use Rattle.vd_space.specs.declared.problem.Problem.{Problem}
use Rattle.vd_space.specs.Validity.{protocols, takes_part}
use Rattle.vd_space_prefix.specs.Tables.{AreListed}
use Rattle.vd_space_prefix.proofs.Front.{at_place, size_by_place}
use Rattle.vd_space.specs.Points.{Switch, decided, members, off, on, switched, switches}
use Rattle.vd_space.proofs.Front.{at_slot, at_either}
use Rattle.vd_cost_network_prefix.specs.States.{AreSettings, as_states, count_of_points, states_of}

past_all : (n m point : ℕ) → n + m ≤ point → n ≤ point → m ≤ point - n
past_all n m point past high = omega (arith, past, high)

-- nothing is decided of what is no point
nothing_decided : (problem : Problem) (prefix : List ℕ) (point : ℕ) → count_of_points problem ≤ point → decided problem prefix point ≡ None
nothing_decided problem prefix point past = elim (at_either problem (slice_get prefix) (switched problem prefix) None point) [
  | inl slot ↦ let low = slot.0 in absurd (omega (arith, low, past))
  | inr behind ↦ behind.1 ∙ ap (λ o. option_map_or (switched problem prefix) o None) (slice_get_past (switches problem) (point - length problem.slots) (past_all (length problem.slots) (length (switches problem)) point past behind.0))
]

state_is : (problem : Problem) (prefix : List ℕ) (point : ℕ) → get_or (states_of problem prefix) point None ≡ decided problem prefix point
state_is problem prefix point = elim (cases_lt point (count_of_points problem)) [
  | inl low ↦ at_place (count_of_points problem) (decided problem prefix) point None low
  | inr past ↦ get_or_past (states_of problem prefix) point None (subst (λ n. n ≤ point) (sym (size_by_place (count_of_points problem) (decided problem prefix))) past) ∙ sym (nothing_decided problem prefix point past)
]

-- what is written down is what is decided
pub states_are : (problem : Problem) (prefix : List ℕ) → as_states (states_of problem prefix) ≡ decided problem prefix
states_are problem prefix = λ i point. state_is problem prefix point i

pub all_written : (problem : Problem) (prefix : List ℕ) (states : List (Option ℕ)) → length states ≡ count_of_points problem → ((k : ℕ) → k < count_of_points problem → get_or states k None ≡ decided problem prefix k) → states ≡ states_of problem prefix
all_written problem prefix states size each = fill_by_all (decided problem prefix) states (count_of_points problem) None size each

-- ---- settings

listed_at : (problem : Problem) (prefix : List ℕ) (slot v : ℕ) → AreListed problem prefix → slice_get prefix slot ≡ Some v → v < length (protocols problem)
listed_at problem prefix slot v listed is = elim (slice_get_cases prefix slot).1 [
  | inl found ↦ let same : found.0 ≡ v = cc (found.2, is) in subst (λ p. p < length (protocols problem)) (found.3 ∙ same) (listed slot found.0 found.1)
  | inr none ↦ cc (none.1, is)
]

off_or_on : (takes all : Bool) (v : ℕ) → (if takes then Some on else if all then Some off else None) ≡ Some v → v < 2
off_or_on true all v is = let same : 1 ≡ v = cc in omega (arith, same)
off_or_on false true v is = let same : 0 ≡ v = cc in omega (arith, same)
off_or_on false false v is = cc

switch_low : (problem : Problem) (prefix : List ℕ) (v : ℕ) (item : Option Switch) → option_map_or (switched problem prefix) item None ≡ Some v → v < option_map_or (λ w. 2) item 0
switch_low problem prefix v None is = cc
switch_low problem prefix v (Some w) is = off_or_on (takes_part problem prefix w.guard w.host) (list_all (λ (slot : SlotId). is_some (slice_get prefix slot.0)) (members problem w)) v is

pub are_settings : (problem : Problem) (prefix : List ℕ) → AreListed problem prefix → AreSettings problem (decided problem prefix)
are_settings problem prefix listed point v is = elim (at_either problem (slice_get prefix) (switched problem prefix) None point) [
  | inl slot ↦ subst (λ n. v < n) (sym (at_slot problem (λ s. length (protocols problem)) (λ w. 2) 0 point slot.0)) (listed_at problem prefix point v listed (sym slot.1 ∙ is))
  | inr behind ↦
      let low = switch_low problem prefix v (slice_get (switches problem) (point - length problem.slots)) (sym behind.1 ∙ is) in
      elim (at_either problem (λ s. length (protocols problem)) (λ w. 2) 0 point) [
        | inl slot ↦ let first = slot.0 in let second = behind.0 in absurd (omega (arith, first, second))
        | inr whole ↦ subst (λ n. v < n) (sym whole.1) low
      ]
]
