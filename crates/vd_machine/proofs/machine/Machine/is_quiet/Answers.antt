use Rattle.std.proofs.Common.{◌<◌, length, arith, subst, sym, ap, ◌∙◌}
use Rattle.vd_execution.specs.Code.{Finished}
use Rattle.vd_execution.specs.Step.{need_of, deed_of}
use Rattle.vd_machine.specs.declared.frames.Frame.TheVariants.{Run}
use Rattle.vd_machine.specs.Machines.{held, cursors_of}
use Rattle.vd_machine.specs.Kept.{FrameFits, frame_code, frames_code, state_of, op_need, op_deed}
use Rattle.vd_machine.specs.Quietly.{IsQuiet}
use Rattle.vd_machine.proofs.Spans.{run_first, run_want, run_deed}
use Rattle.vd_machine.proofs.Running.{quiet_at}
use Rattle.vd_machine.proofs.machine.Machine.is_quiet.Goals as goal

pub is_quiet_at-requires : goal.is_quiet_at-requires
is_quiet_at-requires c =
    let m = c.self.inside in
    let fits : FrameFits (length m.registers.items) m.code.items (Run c.in-Run.from c.in-Run.to) = subst (λ f. FrameFits (length m.registers.items) m.code.items f) c.in-Run.is c.self.invariant.0.top in
    let more : c.in-Run.from < c.in-Run.to = omega arith in
    run_first (length m.registers.items) m.code.items c.in-Run.from c.in-Run.to c.index.result.now fits more c.index.ensures

pub returns-else-from-to-clause-yes : goal.returns-else-from-to-clause-yes
returns-else-from-to-clause-yes c = λ yes.
    let m = c.self.inside in
    let fits : FrameFits (length m.registers.items) m.code.items (Run c.in-Run.from c.in-Run.to) = subst (λ f. FrameFits (length m.registers.items) m.code.items f) c.in-Run.is c.self.invariant.0.top in
    let more : c.in-Run.from < c.in-Run.to = omega arith in
    let rest = frames_code m.code.items m.below.items Finished in
    let f = held m.registers.items in
    let wants = ap (λ t. need_of f (frame_code m.code.items t rest)) c.in-Run.is ∙ run_want (length m.registers.items) f m.code.items c.in-Run.from c.in-Run.to c.index.result.now rest fits more c.index.ensures in
    let does = ap (λ t. deed_of f (frame_code m.code.items t rest)) c.in-Run.is ∙ run_deed (length m.registers.items) f m.code.items c.in-Run.from c.in-Run.to c.index.result.now rest fits more c.index.ensures in
    subst (λ k. IsQuiet k.lists (state_of k)) c.self.view_is
    (quiet_at m.lists (cursors_of m.taken) (op_need f c.index.result.now) _ (op_deed f c.index.result.now) _ wants does (c.is_quiet_at.ensures.yes yes))

pub returns-else-from-to-clause-no : goal.returns-else-from-to-clause-no
returns-else-from-to-clause-no c = λ quiet.
    let m = c.self.inside in
    let fits : FrameFits (length m.registers.items) m.code.items (Run c.in-Run.from c.in-Run.to) = subst (λ f. FrameFits (length m.registers.items) m.code.items f) c.in-Run.is c.self.invariant.0.top in
    let more : c.in-Run.from < c.in-Run.to = omega arith in
    let rest = frames_code m.code.items m.below.items Finished in
    let f = held m.registers.items in
    let wants = ap (λ t. need_of f (frame_code m.code.items t rest)) c.in-Run.is ∙ run_want (length m.registers.items) f m.code.items c.in-Run.from c.in-Run.to c.index.result.now rest fits more c.index.ensures in
    let does = ap (λ t. deed_of f (frame_code m.code.items t rest)) c.in-Run.is ∙ run_deed (length m.registers.items) f m.code.items c.in-Run.from c.in-Run.to c.index.result.now rest fits more c.index.ensures in
    c.is_quiet_at.ensures.no (quiet_at m.lists (cursors_of m.taken) _ (op_need f c.index.result.now) _ (op_deed f c.index.result.now) (sym wants) (sym does)
    (subst (λ k. IsQuiet k.lists (state_of k)) (sym c.self.view_is) quiet))
