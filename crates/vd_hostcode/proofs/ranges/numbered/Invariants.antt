use Rattle.std.proofs.Common.{◌≡◌, ◌+◌, ◌≤◌, drop}
use Rattle.vd_hostcode.specs.Ranges.{count_in}
use Rattle.vd_hostcode.proofs.ranges.numbered.Given as goal

abbrev pub invariant-loop-instruction : goal.invariant-loop-instruction
invariant-loop-instruction l = (l.count ≤ l.instruction-index) × (l.count + count_in (drop l.instruction-index l.code) ≡ count_in l.code)
