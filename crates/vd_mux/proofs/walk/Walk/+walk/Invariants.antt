use Rattle.std.proofs.Common.{◌≡◌, drop}
use Rattle.vd_mux.specs.Walks.{made_of_all}
use Rattle.vd_mux.proofs.walk.Walk.+walk.Given as goal

abbrev pub invariant-rewrite_all-loop-stmt : goal.invariant-rewrite_all-loop-stmt
invariant-rewrite_all-loop-stmt l = made_of_all l.self l.guards l.block (drop l.stmt-index l.body) l.made ≡ made_of_all l.self l.guards l.block l.body l.initial.made
