use Rattle.std.proofs.Common.{length}
use Rattle.vd_noninter.specs.Reached.{reach_of}
use Rattle.vd_noninter.proofs.Following.{Leads}
use Rattle.vd_noninter.proofs.reached.reach_along.Given as goal

abbrev pub invariant-passes : goal.invariant-passes
invariant-passes l = Leads (reach_of l.reached) l.initial.waiting l.waiting

abbrev pub decreases-passes : goal.decreases-passes
decreases-passes l = length l.waiting
