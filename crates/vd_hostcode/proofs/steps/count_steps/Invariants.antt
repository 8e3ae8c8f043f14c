use Rattle.std.proofs.Common.{◌≤◌, length}
use Rattle.vd_hostcode.proofs.Counting.{SoFar}
use Rattle.vd_hostcode.proofs.steps.count_steps.Given as goal

abbrev pub invariant-instructions : goal.invariant-instructions
invariant-instructions l = (l.left ≤ length l.code) × SoFar l.code l.left l.steps l.blocks

abbrev pub decreases-instructions : goal.decreases-instructions
decreases-instructions l = l.left
