use Rattle.vd_backends.proofs.Cells.{SoFar}
use Rattle.vd_backends.proofs.arrays.zeros.Given as goal

abbrev pub invariant-loop-host : goal.invariant-loop-host
invariant-loop-host l = SoFar l.size l.hosts l.host-index l.parts l.initial.to l.to
