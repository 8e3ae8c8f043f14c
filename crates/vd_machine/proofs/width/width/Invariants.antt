use Rattle.std.proofs.Common.{ℕ, ◌-◌, ◌<◌, ◌≤◌, length, get_or}
use Rattle.vd_execution.specs.declared.instructions.Instr.{Instr}
use Rattle.vd_machine.specs.Widths.{InstrFits}
use Rattle.vd_machine.proofs.width.width.Given as goal

abbrev pub invariant-loop-i : goal.invariant-loop-i
invariant-loop-i l = record {
  within : l.i ≤ length l.code;
  few : l.width ≤ 2097152;
  fits : (k : ℕ) (d : Instr) → k < l.i → k < length l.code → InstrFits l.width (get_or l.code k d);
}

abbrev pub decreases-loop-i : goal.decreases-loop-i
decreases-loop-i l = length l.code - l.i
