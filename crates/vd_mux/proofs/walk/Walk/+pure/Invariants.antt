use Rattle.std.proofs.Common.{◌≡◌, drop}
use Rattle.vd_rewrite.specs.Rewriting.{all_pure}
use Rattle.vd_mux.specs.Walks.{as_rewritings}
use Rattle.vd_mux.proofs.walk.Walk.+pure.Given as goal

abbrev pub invariant-are_pure-loop-stmt : goal.invariant-are_pure-loop-stmt
invariant-are_pure-loop-stmt l = all_pure (as_rewritings l.self (drop l.stmt-index l.body)) ≡ all_pure (as_rewritings l.self l.body)
