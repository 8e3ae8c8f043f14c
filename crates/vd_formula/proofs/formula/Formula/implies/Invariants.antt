use Rattle.vd_formula.proofs.Closure.{IsClosedTo}
use Rattle.vd_formula.proofs.formula.Formula.implies.Given as goal

abbrev pub invariant-loop-name : goal.invariant-loop-name
invariant-loop-name l = IsClosedTo l.self-inside.names l.name l.initial.truths l.truths
