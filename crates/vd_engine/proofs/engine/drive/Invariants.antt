use Rattle.vd_execution.specs.Code.{weight}
use Rattle.vd_machine.specs.Kept.{state_of}
use Rattle.vd_engine.proofs.Going.{Going}
use Rattle.vd_engine.proofs.engine.drive.Given as goal

abbrev pub invariant-loop-machine : goal.invariant-loop-machine
invariant-loop-machine g l = Going g.L.Link.view l.initial.machine l.machine l.initial.links l.links (g.O.Sink.view l.initial.out) (g.O.Sink.view l.out) l.printed

abbrev pub decreases-loop-machine : goal.decreases-loop-machine
decreases-loop-machine g l = weight (state_of l.machine).pending
