use Rattle.std.proofs.Common.{[]}
use Rattle.vd_execution.specs.Text.{pick}
use Rattle.vd_reorder.specs.Packets.{opened_in}
use Rattle.vd_projection.proofs.Lines.{code_more}
use Rattle.vd_projection.proofs.projection_reordered.codes.opened_by.Goals as goal

pub loop-number-preserved : goal.loop-number-preserved
loop-number-preserved c =
    code_more (λ h. opened_in [] (pick h c.args.lines.now)) c.loop-number.number c.loop-number.opened c.push.new.self c.in_ok-registers.registers c.loop-number.invariant (c.in_ok-registers.ensures {u = tt}) (c.in_ok-push.ensures {u = tt}).ok
