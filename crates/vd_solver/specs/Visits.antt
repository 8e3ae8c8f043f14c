-- The rules that have to be visited.
use Rattle.std.specs.Prelude.{◌≡◌, ℕ, ◌+◌, ◌<◌, ◌≤◌, false, List, length, slice_index_or, slice_set, All, Contains, IsTrue}
use Rattle.vd_solver.specs.declared.waiting.Waiting.{Waiting}

abbrev pub IsWaiting : Waiting → ℕ → Type 0
IsWaiting w rule = IsTrue (slice_index_or w.flags.items rule false)

-- the queue has rules that can wait, and each that waits
pub record IsQueue (w : Waiting) : Type 0 where
  pub rules : All (λ rule. rule < length w.flags.items) w.queue.items
  pub listed : (rule : ℕ) → IsWaiting w rule → Contains w.queue.items rule

-- the rule is taken out, and waits no more
pub record TakesRule (old : Waiting) (rule : ℕ) (new : Waiting) : Type 0 where
  pub within : rule < length old.flags.items
  pub flags : new.flags.items ≡ slice_set old.flags.items rule false
  pub queue : IsQueue new
  pub shorter : length new.queue.items + 1 ≡ length old.queue.items

-- these rules wait besides those that waited
pub record AddsRules (old : Waiting) (rules : List ℕ) (new : Waiting) : Type 0 where
  pub count : length new.flags.items ≡ length old.flags.items
  pub queue : IsQueue new
  pub added : All (IsWaiting new) rules
  pub kept : (rule : ℕ) → IsWaiting old rule → IsWaiting new rule
  pub longer : length new.queue.items ≤ length old.queue.items + length rules
