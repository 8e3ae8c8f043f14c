use Rattle.std.proofs.Common.{◌≡◌, ◌+◌, ◌-◌}
use Rattle.vd_excuse_runs.specs.Registers.{cleared}
use Rattle.vd_excuse_runs.proofs.registers.clear.Given as goal

abbrev pub invariant-loop-i : goal.invariant-loop-i
invariant-loop-i l = cleared l.registers (l.first + l.i) (l.count - l.i) ≡ cleared l.initial.registers l.first l.count

abbrev pub decreases-loop-i : goal.decreases-loop-i
decreases-loop-i l = l.count - l.i
