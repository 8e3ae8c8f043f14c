use Rattle.std.proofs.Common.{drop}
use Rattle.vd_space_api.specs.Terms.{AreCosts}
use Rattle.vd_space_api.proofs.space_shifts.terms.all_terms.Given as goal

abbrev pub invariant-loop-at : goal.invariant-loop-at
invariant-loop-at l = AreCosts l.problem (drop l.at l.problem.outputs) l.terms
