use Rattle.std.proofs.Common.{Bool, List, IfOk, ◌∙◌, subst}
use Rattle.vd_rewrite.specs.Rewriting.{marked}
use Rattle.vd_long.specs.Lengthened.{IsLengthened}
use Rattle.vd_long.proofs.marks.lengthen_labelled.Goals as goal

pub returns : goal.returns
returns c = subst (λ (marks : List Bool). IfOk c.lengthen.result (IsLengthened (marked marks) c.args.program.now)) (c.as_slice.ensures ∙ c.in_ok-marks.ensures) c.lengthen.ensures
