use Rattle.std.proofs.Common.{◌≡◌, drop}
use Rattle.vd_rewrite.specs.Rewriting.{some_changed}
use Rattle.vd_mux.specs.Walks.{as_rewritings}
use Rattle.vd_mux.proofs.walk.Walk.+changed.Given as goal

abbrev pub invariant-have_hidden_if-loop-stmt : goal.invariant-have_hidden_if-loop-stmt
invariant-have_hidden_if-loop-stmt l = some_changed (as_rewritings l.self (drop l.stmt-index l.body)) ≡ some_changed (as_rewritings l.self l.body)
