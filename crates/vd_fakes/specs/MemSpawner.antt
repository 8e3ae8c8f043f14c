-- A spawner in memory that fails at listed calls, and where no child is left.
use Rattle.std.specs.Prelude.{◌≡◌, ◌||◌, ℕ, Bool, true, false, List, [], Option, None, option_map, slice_get, length, nat_lt, not, Result, Ok, Err}
use Rattle.vd_base.specs.declared.faults.CallFault.{CallFault}
use Rattle.vd_base.specs.declared.faults.CallFault.TheVariants as call_fault
use Rattle.vd_fakes.specs.Failing.{failures_at, fails_next, with_call, with_fault}
use Rattle.vd_outside.specs.Spawner.{SpawnerView}
use Rattle.vd_outside.specs.declared.child.Child.{Child}
use Rattle.vd_fakes.specs.declared.failures.Failures.{Failures}
use Rattle.vd_outside.specs.declared.spawner.SpawnerCall.{SpawnerCall}

-- the children that were started, those still to be started, the calls that were asked, and the calls that fail
pub record MemSpawnerState : Type 0 where
  pub children : List Child
  pub waiting : List Child
  pub asked : List SpawnerCall
  pub failures : Failures

-- the status with which the child with this number ends
abbrev pub status_of : List Child → ℕ → Option ℕ
status_of children number = option_map (λ child. child.status) (slice_get children number)

abbrev pub no_child_left : MemSpawnerState → Bool
no_child_left spawner = not (nat_lt 0 (length spawner.waiting))

-- what it tells: where no child waits, none is started
abbrev pub listed_spawner_view : MemSpawnerState → SpawnerView
listed_spawner_view spawner = record {
  told = true;
  given = length spawner.children;
  statuses = status_of spawner.children;
  children = spawner.children;
  waiting = spawner.waiting;
  otherwise = None;
  asked = spawner.asked;
  faults = spawner.failures.faults;
}

-- one that will start these children, and fails at the calls with these numbers
abbrev pub with_children : List Child → List ℕ → MemSpawnerState
with_children waiting failing = record { children = []; waiting = waiting; asked = []; failures = failures_at failing }

-- A call fails where it is one that fails, or there is nothing for it.
abbrev pub FailsAsListed : {T : Type 0} → Failures → Bool → Result T CallFault → Failures → Type 0
FailsAsListed before nothing (Ok value) now = ((fails_next before || nothing) ≡ false) × (now ≡ with_call before)
FailsAsListed before nothing (Err call_fault.Failed) now = ((fails_next before || nothing) ≡ true) × (now ≡ with_fault before)
FailsAsListed before nothing (Err call_fault.Memory) now = now ≡ with_call before
