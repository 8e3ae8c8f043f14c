use Rattle.std.proofs.Common.{◌≡◌, drop}
use Rattle.vd_edge.specs.Meters.{after_bytes}
use Rattle.vd_edge.proofs.meter.Meter.pass.Given as goal

abbrev pub invariant-loop-byte : goal.invariant-loop-byte
invariant-loop-byte l = after_bytes l.self (drop l.byte-index l.bytes) ≡ after_bytes l.initial.self l.bytes
