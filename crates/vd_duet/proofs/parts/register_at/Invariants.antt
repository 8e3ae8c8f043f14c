use Rattle.std.proofs.Common.{◌≡◌, drop}
use Rattle.vd_duet.specs.Calls.{in_clear, register_of}
use Rattle.vd_duet.proofs.parts.register_at.Given as goal

abbrev pub invariant-loop-part : goal.invariant-loop-part
invariant-loop-part l = register_of (in_clear (drop l.part-index l.part-items)) l.host.0 ≡ register_of (in_clear l.x) l.host.0
