use Rattle.std.proofs.Common.{◌≡◌, drop}
use Rattle.vd_backend_laws.specs.Parts.{index_of}
use Rattle.vd_backends.proofs.arrays.index_at.Given as goal

abbrev pub invariant-loop-part : goal.invariant-loop-part
invariant-loop-part l = index_of (drop l.part-index l.index) l.host.0 ≡ index_of l.index l.host.0
