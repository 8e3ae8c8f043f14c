use Rattle.std.proofs.Common.{◌≡◌, ◌-◌, ◌≤◌, length, take}
use Rattle.vd_execution.specs.Step.{words_in}
use Rattle.vd_machine.specs.Machines.{held}
use Rattle.vd_machine.proofs.did.packet_of.Given as goal

abbrev pub invariant-loop-i : goal.invariant-loop-i
invariant-loop-i l = record {
  full : length l.words ≡ 16;
  within : l.i ≤ length l.from;
  so_far : take l.i l.words ≡ words_in (held l.registers.items) (take l.i l.from);
}

abbrev pub decreases-loop-i : goal.decreases-loop-i
decreases-loop-i l = length l.from - l.i
