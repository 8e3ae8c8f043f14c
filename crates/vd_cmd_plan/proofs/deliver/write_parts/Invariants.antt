use Rattle.std.proofs.Common.{take, Ok}
use Rattle.std.specs.List.{flat_map}
use Rattle.vd_outside.specs.Sink.{WritesAll}
use Rattle.vd_base.specs.declared.faults.Failed.{Failed}
use Rattle.vd_cmd_plan.proofs.deliver.write_parts.Given as goal

abbrev pub invariant-loop-part : goal.invariant-loop-part
invariant-loop-part g l = WritesAll {E = Failed} (flat_map (λ part. part.now) (take l.part-index l.parts)) (g.O.Sink.view l.initial.out) (g.O.Sink.view l.out) (Ok tt)
