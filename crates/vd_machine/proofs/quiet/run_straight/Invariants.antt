use Rattle.std.proofs.Common.{◌-◌, ◌≤◌, List, length}
use Rattle.vd_machine.specs.declared.frames.Frame.{Frame}
use Rattle.vd_machine.specs.declared.frames.Frame.TheVariants.{Run}
use Rattle.vd_machine.specs.Kept.{FrameFits}
use Rattle.vd_machine.specs.Machines.{SamePeers}
use Rattle.vd_machine.specs.Quietly.{GoesOn, IsFitting, kept_as}
use Rattle.vd_machine.proofs.quiet.run_straight.Given as goal

abbrev pub invariant-loop-at : goal.invariant-loop-at
invariant-loop-at l = record {
  high : l.at ≤ l.to;
  fits : FrameFits (length l.registers.items) l.code.items (Run l.at l.to);
  same : SamePeers l.lists l.taken;
  goes : (below : List Frame) → IsFitting (kept_as l.code.items (Run l.from l.to) below l.initial.registers.items l.lists l.initial.taken)
      → GoesOn (kept_as l.code.items (Run l.from l.to) below l.initial.registers.items l.lists l.initial.taken) (kept_as l.code.items (Run l.at l.to) below l.registers.items l.lists l.taken);
}

abbrev pub decreases-loop-at : goal.decreases-loop-at
decreases-loop-at l = l.to - l.at
