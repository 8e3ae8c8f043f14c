use Rattle.std.proofs.Common.{length}
use Rattle.vd_noninter.specs.Reached.{reach_of}
use Rattle.vd_noninter.proofs.Following.{SoFar}
use Rattle.vd_noninter.proofs.reached.Reached.follow.Given as goal

abbrev pub invariant-edges : goal.invariant-edges
invariant-edges l = SoFar (reach_of l.initial.self) (reach_of l.self) l.initial.waiting l.waiting l.left

abbrev pub decreases-edges : goal.decreases-edges
decreases-edges l = length l.waiting
