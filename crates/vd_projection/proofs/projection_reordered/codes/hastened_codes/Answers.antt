use Rattle.vd_execution.specs.Text.{pick}
use Rattle.vd_reorder.specs.Passing.{hastened_by}
use Rattle.vd_choreography_reorder.specs.Testing.{opened_at}
use Rattle.vd_projection.proofs.Lines.{code_more}
use Rattle.vd_projection.proofs.projection_reordered.codes.hastened_codes.Goals as goal

pub loop-number-preserved : goal.loop-number-preserved
loop-number-preserved c =
    code_more (λ h. hastened_by (opened_at c.args.opened.now h) (pick h c.args.lines.now)) c.loop-number.number c.loop-number.codes c.push.new.self c.in_ok-code.code c.loop-number.invariant (c.in_ok-code.ensures {u = tt}) (c.in_ok-push.ensures {u = tt}).ok
