use Rattle.std.proofs.Common.{◌≡◌}
use Rattle.std.specs.Prelude.{filter}
use Rattle.std.specs.List.{range_with_len}
use Rattle.vd_formula.specs.MinimalSets.{is_minimal}
use Rattle.vd_formula.proofs.formula.Formula.minimal_sets.Given as goal

abbrev pub invariant-loop-set : goal.invariant-loop-set
invariant-loop-set l = l.list ≡ filter (is_minimal l.self) (range_with_len 0 l.set)
