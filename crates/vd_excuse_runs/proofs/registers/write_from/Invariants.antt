use Rattle.std.proofs.Common.{◌≡◌, ◌+◌, ◌-◌, drop}
use Rattle.vd_excuse_runs.specs.Registers.{put_from}
use Rattle.vd_excuse_runs.proofs.registers.write_from.Given as goal

abbrev pub invariant-loop-i : goal.invariant-loop-i
invariant-loop-i l = put_from l.registers (l.first + l.i) (drop l.i l.words) ≡ put_from l.initial.registers l.first l.words

abbrev pub decreases-loop-i : goal.decreases-loop-i
decreases-loop-i l = 8 - l.i
