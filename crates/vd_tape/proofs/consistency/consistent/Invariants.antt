use Rattle.vd_tape.proofs.TwoByTwo.{AllBefore, AllBesides}
use Rattle.vd_tape.proofs.consistency.consistent.Given as goal

abbrev pub invariant-loop-first : goal.invariant-loop-first
invariant-loop-first l = AllBefore l.deals l.first

abbrev pub invariant-loop-second : goal.invariant-loop-second
invariant-loop-second l = AllBesides l.deals l.first l.second
