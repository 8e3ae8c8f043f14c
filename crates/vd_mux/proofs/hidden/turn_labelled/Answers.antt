use Rattle.std.proofs.Common.{◌≡◌, Bool, List, IfOk, ◌∙◌, subst}
use Rattle.vd_mux.specs.Selections.{IsTurned}
use Rattle.vd_rewrite.specs.Rewriting.{marked}
use Rattle.vd_mux.proofs.hidden.turn_labelled.Goals as goal

pub returns : goal.returns
returns c = subst (λ (marks : List Bool). IfOk c.turn.result (IsTurned (marked marks) c.args.program.now)) (c.as_slice.ensures ∙ c.in_ok-marks.ensures) c.turn.ensures
