use Rattle.std.proofs.Common.{◌≡◌, drop}
use Rattle.vd_formula.specs.Forms.{first_unknown}
use Rattle.vd_formula.proofs.FormNames.{unknown_of}
use Rattle.vd_formula.proofs.forms.+first_unknown.Given as goal

abbrev pub decreases-first_unknown : goal.decreases-first_unknown
decreases-first_unknown l = goal.size-first_unknown l

abbrev pub invariant-loop-part : goal.invariant-loop-part
invariant-loop-part l = first_unknown l.names l.form ≡ unknown_of l.names (drop l.part-index l.part-items)
