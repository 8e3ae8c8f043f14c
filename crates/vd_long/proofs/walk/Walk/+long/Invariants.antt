use Rattle.std.proofs.Common.{◌≡◌, drop}
use Rattle.vd_long.specs.Walks.{some_long}
use Rattle.vd_long.proofs.walk.Walk.+long.Given as goal

abbrev pub invariant-is_some_long-loop-stmt : goal.invariant-is_some_long-loop-stmt
invariant-is_some_long-loop-stmt l = some_long l.self (drop l.stmt-index l.body) ≡ some_long l.self l.body
