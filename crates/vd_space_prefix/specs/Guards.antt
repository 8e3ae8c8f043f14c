-- What it costs to tell guards to the hosts that take part, read off tables.
use Rattle.std.specs.Prelude.{ℕ, Bool, ◌&&◌, not, Option, IfSome, if◌then◌else◌, slice_get, slice_index_or, List, [], length, ℤ, pos, ◌-ℤ◌}
use Rattle.std.specs.List.{range_with_len}
use Rattle.std.specs.Option.{option_map_or}
use Rattle.vd_base.specs.declared.ids.HostId.{HostId}
use Rattle.vd_base.specs.HostSets.{host}
use Rattle.vd_space.specs.declared.problem.Problem.{Problem}
use Rattle.vd_space.specs.declared.problem.Guard.{Guard}
use Rattle.vd_space.specs.Validity.{holds_at, takes_part}
use Rattle.vd_space.specs.Costs.{total}
use Rattle.vd_space_prefix.specs.declared.guards.Telling.{Telling}
use Rattle.vd_space_prefix.specs.Transfers.{IsWithin}

-- to a host, by whether the guard's slot is decided
abbrev pub told_under : Telling → List ℕ → ℕ → ℤ
told_under t prefix h = option_map_or (λ p. slice_index_or (slice_index_or t.costs h []) p (pos 0)) (slice_get prefix t.slot) (slice_index_or t.free h (pos 0))

abbrev pub told_if : Problem → List ℕ → Guard → Telling → ℕ → ℤ
told_if problem prefix guard t h = if takes_part problem prefix guard (host h) then told_under t prefix h else pos 0

abbrev pub guard_under : Problem → List ℕ → Guard → Telling → ℤ
guard_under problem prefix guard t = total (told_if problem prefix guard t) (range_with_len 0 (length problem.hosts))

-- the host holds what stands at p, and takes no part before
abbrev pub is_joining : Problem → List ℕ → Guard → ℕ → HostId → Bool
is_joining problem prefix guard p h = holds_at problem h p && not (takes_part problem prefix guard h)

abbrev pub joined_if : Problem → List ℕ → Guard → Telling → ℕ → ℕ → ℤ
joined_if problem prefix guard t p h = if is_joining problem prefix guard p (host h) then told_under t prefix h else pos 0

abbrev pub joined_under : Problem → List ℕ → Guard → Telling → ℕ → ℤ
joined_under problem prefix guard t p = total (joined_if problem prefix guard t p) (range_with_len 0 (length problem.hosts))

-- from a prefix to another, of a guard by its number
abbrev pub change_of_guard : Problem → List ℕ → List ℕ → Guard → Option Telling → ℤ
change_of_guard problem before after guard telling = option_map_or (λ t. guard_under problem after guard t -ℤ guard_under problem before guard t) telling (pos 0)

abbrev pub guard_change : Problem → List Telling → List ℕ → List ℕ → ℕ → ℤ
guard_change problem tellings before after number = option_map_or (λ guard. change_of_guard problem before after guard (slice_get tellings number)) (slice_get problem.guards number) (pos 0)

abbrev pub guard_changes : Problem → List Telling → List ℕ → List ℕ → List ℕ → ℤ
guard_changes problem tellings numbers before after = total (guard_change problem tellings before after) numbers

-- 2^30: a guard is told less than that often at prices of at most 848, and a term with nothing left counts 10^9
pub record IsTelling (t : Telling) : Type 0 where
  pub free : (h : ℕ) → IsWithin 1073741824 (slice_index_or t.free h (pos 0))
  pub costs : (h p : ℕ) → IsWithin 1073741824 (slice_index_or (slice_index_or t.costs h []) p (pos 0))

abbrev pub AreTellings : List Telling → Type 0
AreTellings tellings = (number : ℕ) → IfSome (slice_get tellings number) IsTelling
