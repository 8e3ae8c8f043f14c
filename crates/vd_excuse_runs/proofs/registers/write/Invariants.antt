use Rattle.std.proofs.Common.{◌≡◌, ◌+◌, ◌-◌, length}
use Rattle.vd_semantics.specs.Stores.{put}
use Rattle.vd_excuse_runs.proofs.registers.write.Given as goal

abbrev pub invariant-loop-registers : goal.invariant-loop-registers
invariant-loop-registers l = put 0 l.registers l.register l.word ≡ put 0 l.initial.registers l.register l.word

abbrev pub decreases-loop-registers : goal.decreases-loop-registers
decreases-loop-registers l = l.register + 1 - length l.registers
