use Rattle.std.proofs.Common.{◌≡◌, drop}
use Rattle.vd_semantics.specs.Turns.{turns}
use Rattle.vd_noninter_protocols.specs.Runs.{after_all, all_heard}
use Rattle.vd_noninter_protocols.proofs.noninter_difference.run.Run.+run.Given as goal

abbrev pub invariant-block-loop-stmt : goal.invariant-block-loop-stmt
invariant-block-loop-stmt l = after_all (all_heard l.listener (drop l.stmt-index l.body)) l.turn l.self ≡ after_all (all_heard l.listener l.body) l.turn l.initial.self

abbrev pub invariant-statement-loop-number : goal.invariant-statement-loop-number
invariant-statement-loop-number l = l.self ≡ turns l.number (after_all (all_heard l.listener l.body)) l.initial.self
