-- A point is a slot or a switch.
use Rattle.std.proofs.Common.{◌≡◌, ℕ, ◌+◌, ◌-◌, ◌<◌, ◌≤◌, ◌⊎◌, Some, length, ap, ◌∙◌, arith, inl, inr, slice_get}
use Rattle.std.specs.Prelude.{IsTrue, is_some, nat_lt}
use Rattle.std.specs.Option.{option_map_or}
use Rattle.std.proofs.lemmas.Bool.{cond-true, cond-false, lt-ltb, le-ltb, cases_lt}
use Rattle.vd_space.specs.declared.problem.Problem.{Problem}
use Rattle.vd_space.specs.declared.problem.Making.{Making}
use Rattle.vd_space.specs.Validity.{can_stand, is_candidate}
use Rattle.vd_space.specs.Points.{Switch, switches, at_point}
use Rattle.vd_space.proofs.Items.{inside, held}

pub at_slot : {X : Type 0} (problem : Problem) (slot : ℕ → X) (switch : Switch → X) (none : X) (s : ℕ) → s < length problem.slots → at_point problem slot switch none s ≡ slot s
at_slot problem slot switch none s low =
    cond-true (nat_lt s (length problem.slots)) (slot s) (option_map_or switch (slice_get (switches problem) (s - length problem.slots)) none) (lt-ltb s (length problem.slots) low)

behind : (n k : ℕ) → n + k - n ≡ k
behind n k = omega arith

pub at_switch : {X : Type 0} (problem : Problem) (slot : ℕ → X) (switch : Switch → X) (none : X) (k : ℕ) (w : Switch) → slice_get (switches problem) k ≡ Some w
    → at_point problem slot switch none (length problem.slots + k) ≡ switch w
at_switch problem slot switch none k w is =
    let n = length problem.slots in
    cond-false (nat_lt (n + k) n) (slot (n + k)) (option_map_or switch (slice_get (switches problem) (n + k - n)) none) (le-ltb (n + k) n (omega arith))
    ∙ ap (λ j. option_map_or switch (slice_get (switches problem) j) none) (behind n k)
    ∙ ap (λ o. option_map_or switch o none) is

-- at any number: one of a slot, or what stands so far behind
pub at_either : {X : Type 0} (problem : Problem) (slot : ℕ → X) (switch : Switch → X) (none : X) (point : ℕ)
    → ((point < length problem.slots) × (at_point problem slot switch none point ≡ slot point))
    ⊎ ((length problem.slots ≤ point) × (at_point problem slot switch none point ≡ option_map_or switch (slice_get (switches problem) (point - length problem.slots)) none))
at_either problem slot switch none point = elim (cases_lt point (length problem.slots)) [
  | inl low ↦ inl (low, at_slot problem slot switch none point low)
  | inr high ↦ inr (high, cond-false (nat_lt point (length problem.slots)) (slot point) (option_map_or switch (slice_get (switches problem) (point - length problem.slots)) none) (le-ltb point (length problem.slots) high))
]

-- a slot that has a candidate is there
pub candidate_inside : (problem : Problem) (slot p : ℕ) → IsTrue (is_candidate problem slot p) → slot < length problem.slots
candidate_inside problem slot p is =
    let making = held (λ (making : Making). can_stand problem making p) (slice_get problem.slots slot) is in
    inside problem.slots slot (ap is_some making.1)
