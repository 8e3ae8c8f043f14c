use Rattle.std.proofs.Common.{◌≡◌}
use Rattle.std.specs.Prelude.{vec_capacity}
use Rattle.vd_execution.specs.Code.{weight}
use Rattle.vd_machine.specs.Kept.{pending_of}
use Rattle.vd_machine.specs.Quietly.{GoesOn, kept_as}
use Rattle.vd_machine.proofs.quiet.run_turns.Given as goal

abbrev pub invariant-loop-top : goal.invariant-loop-top
invariant-loop-top l = record {
  goes : GoesOn (kept_as l.code.items l.initial.top l.initial.below.items l.initial.registers.items l.lists l.initial.taken) (kept_as l.code.items l.top l.below.items l.registers.items l.lists l.taken);
  capacity : vec_capacity l.below ≡ vec_capacity l.initial.below;
}

abbrev pub decreases-loop-top : goal.decreases-loop-top
decreases-loop-top l = weight (pending_of l.code.items l.top l.below.items)
