use Rattle.std.proofs.Common.{◌≡◌}
use Rattle.vd_execution.specs.Code.{weight}
use Rattle.vd_machine.specs.Kept.{state_of}
use Rattle.vd_machine.specs.Quietly.{Quietly}
use Rattle.vd_machine.proofs.machine.Machine.run.Given as goal

abbrev pub invariant-loop-self : goal.invariant-loop-self
invariant-loop-self l = record {
  so_far : Quietly l.initial.self.lists (state_of l.initial.self) (state_of l.self);
  lists : l.self.lists ≡ l.initial.self.lists;
}

abbrev pub decreases-loop-self : goal.decreases-loop-self
decreases-loop-self l = weight (state_of l.self).pending
