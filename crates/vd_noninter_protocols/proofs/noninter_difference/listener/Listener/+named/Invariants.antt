use Rattle.std.proofs.Common.{◌≡◌, drop}
use Rattle.vd_noninter_protocols.specs.Parts.{held_there}
use Rattle.vd_noninter_protocols.specs.Runs.{all_heard}
use Rattle.vd_noninter_protocols.proofs.noninter_difference.listener.Listener.+named.Given as goal

abbrev pub invariant-holds_named-loop-stmt : goal.invariant-holds_named-loop-stmt
invariant-holds_named-loop-stmt l = held_there l.self (all_heard l.self (drop l.stmt-index l.body)) ≡ held_there l.self (all_heard l.self l.body)
