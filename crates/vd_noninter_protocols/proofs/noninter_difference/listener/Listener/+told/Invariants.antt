use Rattle.std.proofs.Common.{◌≡◌, drop}
use Rattle.vd_noninter_protocols.specs.Parts.{told_there}
use Rattle.vd_noninter_protocols.specs.Runs.{all_heard}
use Rattle.vd_noninter_protocols.proofs.noninter_difference.listener.Listener.+told.Given as goal

abbrev pub invariant-is_told-loop-stmt : goal.invariant-is_told-loop-stmt
invariant-is_told-loop-stmt l = told_there l.self (all_heard l.self (drop l.stmt-index l.body)) ≡ told_there l.self (all_heard l.self l.body)
