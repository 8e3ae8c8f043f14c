-- What a stream tells as a sink.
use Rattle.std.specs.Prelude.{ℕ, true, List}
use Rattle.vd_outside.specs.Sink.{SinkView}

-- the bytes that it said it took, and how often it has failed
abbrev pub sink_view : List ℕ → ℕ → SinkView
sink_view taken faults = record { told = true; taken = taken; faults = faults }
