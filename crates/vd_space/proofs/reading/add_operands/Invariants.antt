use Rattle.std.proofs.Common.{◌≡◌, ◌++◌, map, take}
use Rattle.vd_space.specs.Reading.{use_of}
use Rattle.vd_space.proofs.reading.add_operands.Given as goal

abbrev pub invariant-loop-operand : goal.invariant-loop-operand
invariant-loop-operand l = l.problem ≡ record l.initial.problem { uses = l.initial.problem.uses ++ map (use_of l.weight l.target) (take l.operand-index l.operands) }
