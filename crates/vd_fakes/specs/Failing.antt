-- What objects in memory stand for.
use Rattle.std.specs.Prelude.{ℕ, ◌+◌, ◌-◌, ◌^◌, ◌≡◌, ◌||◌, min, Bool, true, false, List, Option, Result, Ok, Err, nat_eq, is_none}
use Rattle.std.specs.List.{list_any}
use Rattle.vd_base.specs.declared.faults.CallFault.{CallFault}
use Rattle.vd_base.specs.declared.faults.CallFault.TheVariants as call_fault
use Rattle.vd_fakes.specs.declared.failures.Failures.{Failures}
use Rattle.vd_outside.specs.declared.faults.FetchFault.{FetchFault}
use Rattle.vd_outside.specs.declared.faults.FetchFault.TheVariants as fetch_fault

-- whether the call with this number is listed as one that fails
abbrev pub is_listed : List ℕ → ℕ → Bool
is_listed failing number = list_any (λ each. nat_eq each number) failing

-- whether the next call fails
abbrev pub fails_next : Failures → Bool
fails_next failures = is_listed failures.failing failures.calls

-- one more, up to the end of the type
abbrev pub one_more : ℕ → ℕ
one_more count = min (count + 1) (2 ^ 64 - 1)

-- a call was counted
abbrev pub with_call : Failures → Failures
with_call failures = record failures { calls = one_more failures.calls }

-- a call was counted that failed
abbrev pub with_fault : Failures → Failures
with_fault failures = record failures { calls = one_more failures.calls; faults = one_more failures.faults }

-- A fetch fails where its call is one that fails, or there is no file.
abbrev pub FetchFailsAsListed : {T C : Type 0} → Failures → Option C → Result T FetchFault → Failures → Type 0
FetchFailsAsListed before content (Ok bytes) now = (fails_next before ≡ false) × (now ≡ with_call before)
FetchFailsAsListed before content (Err fetch_fault.TooLong) now = (fails_next before ≡ false) × (now ≡ with_call before)
FetchFailsAsListed before content (Err fetch_fault.Failed) now = ((fails_next before || is_none content) ≡ true) × (now ≡ with_fault before)
FetchFailsAsListed before content (Err fetch_fault.Memory) now = now ≡ with_call before

-- A store fails where its call is one that fails.
abbrev pub StoreFailsAsListed : {T : Type 0} → Failures → Result T CallFault → Failures → Type 0
StoreFailsAsListed before (Ok done) now = (fails_next before ≡ false) × (now ≡ with_call before)
StoreFailsAsListed before (Err call_fault.Failed) now = (fails_next before ≡ true) × (now ≡ with_fault before)
StoreFailsAsListed before (Err call_fault.Memory) now = now ≡ with_call before

-- where memory does not run out, a call fails if it is told to
abbrev pub FailsAsTold : {T : Type 0} → (fails : Bool) → Result T CallFault → Type 0
FailsAsTold fails (Ok done) = fails ≡ false
FailsAsTold fails (Err call_fault.Failed) = fails ≡ true
FailsAsTold fails (Err call_fault.Memory) = Unit {0}

-- The same for a release, which fails for want of memory too.
abbrev pub ReleaseFailsAsListed : {T : Type 0} → Failures → Result T CallFault → Failures → Type 0
ReleaseFailsAsListed before (Ok done) now = (fails_next before ≡ false) × (now ≡ with_call before)
ReleaseFailsAsListed before (Err call_fault.Failed) now = (fails_next before ≡ true) × (now ≡ with_fault before)
ReleaseFailsAsListed before (Err call_fault.Memory) now = now ≡ with_fault before

-- failures at the calls with these numbers, before the first call
abbrev pub failures_at : List ℕ → Failures
failures_at failing = record { failing = failing; calls = 0; faults = 0 }
