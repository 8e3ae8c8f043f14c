use Rattle.std.proofs.Common.{◌≡◌, drop}
use Rattle.vd_semantics.specs.Turns.{turns}
use Rattle.vd_semantics.specs.ProgramMeaning.{block_effect}
use Rattle.vd_semantics.proofs.program.ProgramRun.+run.Given as goal

abbrev pub invariant-block-loop-stmt : goal.invariant-block-loop-stmt
invariant-block-loop-stmt l = block_effect (drop l.stmt-index l.body) l.turn l.self ≡ block_effect l.body l.turn l.initial.self

abbrev pub invariant-statement-loop-number : goal.invariant-statement-loop-number
invariant-statement-loop-number l = l.self ≡ turns l.number (block_effect l.body) l.initial.self
