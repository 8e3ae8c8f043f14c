use Rattle.std.proofs.Common.{not, ◌&&◌}
use Rattle.std.specs.Prelude.{IsTrue}
use Rattle.std.specs.List.{list_all, range_with_len}
use Rattle.vd_formula.specs.TruthTable.{at, is_subset}
use Rattle.vd_formula.proofs.formula.Formula.is_minimal.Given as goal

abbrev pub invariant-loop-smaller : goal.invariant-loop-smaller
invariant-loop-smaller l = IsTrue (list_all (λ smaller. not (is_subset smaller l.set && at l.self smaller)) (range_with_len 0 l.smaller))
