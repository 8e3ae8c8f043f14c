use Rattle.std.proofs.Common.{◌≡◌, drop}
use Rattle.vd_mux.specs.Truths.{all_kept}
use Rattle.vd_mux.proofs.booleans.Truths.+kept.Given as goal

abbrev pub invariant-are_kept-loop-stmt : goal.invariant-are_kept-loop-stmt
invariant-are_kept-loop-stmt l = all_kept l.self (drop l.stmt-index l.body) ≡ all_kept l.self l.body
