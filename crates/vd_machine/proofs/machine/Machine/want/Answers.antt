use Rattle.std.proofs.Common.{◌<◌, length, arith, subst, sym, ap, ◌∙◌}
use Rattle.vd_execution.specs.Code.{Finished}
use Rattle.vd_execution.specs.Step.{need, need_of}
use Rattle.vd_machine.specs.declared.frames.Frame.TheVariants.{Run}
use Rattle.vd_machine.specs.Machines.{held, cursors_of}
use Rattle.vd_machine.specs.Kept.{FrameFits, frame_code, frames_code, state_of}
use Rattle.vd_machine.specs.Wants.{want_of, IsFromHost}
use Rattle.vd_machine.proofs.Loading.{packet_at, within}
use Rattle.vd_machine.proofs.Spans.{run_first, run_want}
use Rattle.vd_machine.proofs.machine.Machine.want.Goals as goal

pub want_at-requires-clause-within : goal.want_at-requires-clause-within
want_at-requires-clause-within c =
    let m = c.self.inside in
    let fits : FrameFits (length m.registers.items) m.code.items (Run c.in-Run.from c.in-Run.to) = subst (λ f. FrameFits (length m.registers.items) m.code.items f) c.in-Run.is c.self.invariant.0.top in
    let more : c.in-Run.from < c.in-Run.to = omega arith in
    run_first (length m.registers.items) m.code.items c.in-Run.from c.in-Run.to c.index.result.now fits more c.index.ensures

pub returns-else-from-to-clause-need : goal.returns-else-from-to-clause-need
returns-else-from-to-clause-need c =
    let m = c.self.inside in
    let fits : FrameFits (length m.registers.items) m.code.items (Run c.in-Run.from c.in-Run.to) = subst (λ f. FrameFits (length m.registers.items) m.code.items f) c.in-Run.is c.self.invariant.0.top in
    let more : c.in-Run.from < c.in-Run.to = omega arith in
    let rest = frames_code m.code.items m.below.items Finished in
    let e = run_want (length m.registers.items) (held m.registers.items) m.code.items c.in-Run.from c.in-Run.to c.index.result.now rest fits more c.index.ensures in
    let at = ap (λ f. need_of (held m.registers.items) (frame_code m.code.items f rest)) c.in-Run.is in
    c.want_at.ensures.need ∙ ap (want_of m.lists (cursors_of m.taken)) (sym (at ∙ e)) ∙ ap (λ k. want_of k.lists (cursors_of k.taken) (need (state_of k))) c.self.view_is

pub want_at-requires-clause-few : goal.want_at-requires-clause-few
want_at-requires-clause-few c =
    let m = c.self.inside in
    packet_at m.lists.deal.hosts m.code.items c.in-Run.from c.index.result.now c.self.invariant.3 (within c.self.inside.registers.items m.code.items c.in-Run.from c.in-Run.to m.top c.in-Run.is c.self.invariant.0.top (omega arith)) c.index.ensures

pub returns-else-from-to-clause-host : goal.returns-else-from-to-clause-host
returns-else-from-to-clause-host c = subst (λ k. IsFromHost k.lists.deal.hosts c.want_at.result) c.self.view_is c.want_at.ensures.host
