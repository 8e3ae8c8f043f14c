use Rattle.std.proofs.Common.{◌≡◌, drop}
use Rattle.vd_long.specs.Walks.{made_of_all}
use Rattle.vd_long.proofs.walk.Walk.+walk.Given as goal

abbrev pub invariant-lengthen_all-loop-stmt : goal.invariant-lengthen_all-loop-stmt
invariant-lengthen_all-loop-stmt l = made_of_all l.self l.block (drop l.stmt-index l.body) l.made ≡ made_of_all l.self l.block l.body l.initial.made
