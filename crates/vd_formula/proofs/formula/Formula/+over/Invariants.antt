use Rattle.std.specs.List.{list_any, list_all}
use Rattle.vd_formula.proofs.FormTruths.{Joined}
use Rattle.vd_formula.proofs.formula.Formula.+over.Given as goal

abbrev pub decreases-over : goal.decreases-over
decreases-over l = goal.size-over l

abbrev pub invariant-loop-part : goal.invariant-loop-part
invariant-loop-part l = Joined list_all l.names l.part-items l.part-index l.whole

abbrev pub invariant-loop-part-2 : goal.invariant-loop-part-2
invariant-loop-part-2 l = Joined list_any l.names l.part-items l.part-index l.whole
