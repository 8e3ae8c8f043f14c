use Rattle.std.proofs.Common.{ℕ, ◌-◌, ◌<◌, ◌≤◌, length, get_or}
use Rattle.vd_execution.specs.declared.instructions.Reg.{Reg}
use Rattle.vd_machine.proofs.width.registers_width.Given as goal

abbrev pub invariant-loop-i : goal.invariant-loop-i
invariant-loop-i l = record {
  within : l.i ≤ length l.registers;
  few : l.width ≤ 2097152;
  fits : (k : ℕ) (d : Reg) → k < l.i → k < length l.registers → (get_or l.registers k d).0 < l.width;
}

abbrev pub decreases-loop-i : goal.decreases-loop-i
decreases-loop-i l = length l.registers - l.i
