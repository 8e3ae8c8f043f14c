use Rattle.std.proofs.Common.{◌≡◌, ◌≤◌, drop}
use Rattle.vd_hostcode.specs.Ranges.{first_broken}
use Rattle.vd_hostcode.proofs.ranges.first_broken.Given as goal

abbrev pub invariant-loop-instruction : goal.invariant-loop-instruction
invariant-loop-instruction l =
    (l.number ≤ l.instruction-index) × (l.before ≤ l.instruction-index) × (first_broken l.hosts l.me 0 0 l.code ≡ first_broken l.hosts l.me l.number l.before (drop l.instruction-index l.code))
