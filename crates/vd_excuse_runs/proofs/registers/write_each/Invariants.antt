use Rattle.std.proofs.Common.{◌≡◌, drop, ◌-◌, length}
use Rattle.vd_excuse_runs.specs.Registers.{put_each}
use Rattle.vd_excuse_runs.proofs.registers.write_each.Given as goal

abbrev pub invariant-loop-i : goal.invariant-loop-i
invariant-loop-i l = put_each l.registers (drop l.i l.into) (drop l.i l.words) ≡ put_each l.initial.registers l.into l.words

abbrev pub decreases-loop-i : goal.decreases-loop-i
decreases-loop-i l = length l.into - l.i
