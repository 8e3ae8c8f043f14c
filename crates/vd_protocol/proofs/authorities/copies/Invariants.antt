use Rattle.vd_protocol.proofs.Members.{CopiesSoFar}
use Rattle.vd_protocol.proofs.authorities.copies.Given as goal

abbrev pub invariant-loop-host : goal.invariant-loop-host
invariant-loop-host l = CopiesSoFar l.set l.hosts l.host l.conf l.integ
