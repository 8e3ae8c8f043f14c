use Rattle.std.proofs.Common.{take, Ok}
use Rattle.vd_base.specs.declared.faults.Failed.{Failed}
use Rattle.vd_outside.specs.Sink.{WritesAll}
use Rattle.vd_cmd_plan.specs.Shown.{shown}
use Rattle.vd_cmd_plan.proofs.shown.write_shown.Given as goal

abbrev pub invariant-loop-byte : goal.invariant-loop-byte
invariant-loop-byte g l = WritesAll {E = Failed} (shown (take l.byte-index l.name)) (g.O.Sink.view l.initial.out) (g.O.Sink.view l.out) (Ok tt)
