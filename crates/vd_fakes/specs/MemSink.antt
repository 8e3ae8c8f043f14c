-- A sink in memory that takes so many bytes a call at most, and fails at listed calls.
use Rattle.std.specs.Prelude.{ℕ, List, length, min, max, take, if◌then◌else◌}
use Rattle.vd_fakes.specs.Failing.{failures_at, fails_next, with_call, with_fault}
use Rattle.vd_outside.specs.Recorded.{Recorded, kept, nothing_recorded}
use Rattle.vd_outside.specs.Sink.{SinkView}
use Rattle.vd_fakes.specs.declared.failures.Failures.{Failures}

pub record MemSinkState : Type 0 where
  pub recorded : Recorded
  pub most : ℕ
  pub failures : Failures

-- how many bytes of a piece with this length it takes in a call
abbrev pub share_of : MemSinkState → ℕ → ℕ
share_of sink len = min len (max sink.most 1)

-- what it tells
abbrev pub limited_view : MemSinkState → SinkView
limited_view sink = record { told = sink.recorded.told; taken = sink.recorded.bytes; faults = sink.failures.faults }

-- how it is after a write
abbrev pub after_write : MemSinkState → List ℕ → MemSinkState
after_write sink bytes =
    if fails_next sink.failures
    then record sink { failures = with_fault sink.failures }
    else record sink { recorded = kept sink.recorded (take (share_of sink (length bytes)) bytes); failures = with_call sink.failures }

-- one that has taken nothing
abbrev pub fresh_sink : ℕ → ℕ → List ℕ → MemSinkState
fresh_sink room most failing = record { recorded = nothing_recorded room; most = most; failures = failures_at failing }
