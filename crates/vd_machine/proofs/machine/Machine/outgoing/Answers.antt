use Rattle.std.proofs.Common.{◌≡◌, ◌<◌, length, arith, subst, sym, ap, ◌∙◌}
use Rattle.vd_execution.specs.Code.{Finished}
use Rattle.vd_execution.specs.Step.{deed, deed_of}
use Rattle.vd_machine.specs.declared.frames.Frame.TheVariants.{Run}
use Rattle.vd_machine.specs.Machines.{held}
use Rattle.vd_machine.specs.Kept.{op_deed, FrameFits, frame_code, frames_code, state_of}
use Rattle.vd_machine.specs.Dids.{deed_of_outgoing, seen, OutgoingFits}
use Rattle.vd_machine.proofs.Loading.{packet_at, within}
use Rattle.vd_machine.proofs.Spans.{run_first, run_deed}
use Rattle.vd_machine.proofs.machine.Machine.outgoing.Goals as goal

pub outgoing_at-requires : goal.outgoing_at-requires
outgoing_at-requires c =
    let m = c.self.inside in
    let fits : FrameFits (length m.registers.items) m.code.items (Run c.in-Run.from c.in-Run.to) = subst (λ f. FrameFits (length m.registers.items) m.code.items f) c.in-Run.is c.self.invariant.0.top in
    let more : c.in-Run.from < c.in-Run.to = omega arith in
    run_first (length m.registers.items) m.code.items c.in-Run.from c.in-Run.to c.index.result.now fits more c.index.ensures

pub returns-else-from-to-clause-deed : goal.returns-else-from-to-clause-deed
returns-else-from-to-clause-deed c =
    let m = c.self.inside in
    let fits : FrameFits (length m.registers.items) m.code.items (Run c.in-Run.from c.in-Run.to) = subst (λ f. FrameFits (length m.registers.items) m.code.items f) c.in-Run.is c.self.invariant.0.top in
    let more : c.in-Run.from < c.in-Run.to = omega arith in
    let rest = frames_code m.code.items m.below.items Finished in
    let e = run_deed (length m.registers.items) (held m.registers.items) m.code.items c.in-Run.from c.in-Run.to c.index.result.now rest fits more c.index.ensures in
    let at = ap (λ f. deed_of (held m.registers.items) (frame_code m.code.items f rest)) c.in-Run.is in
    let is : op_deed (held m.registers.items) c.index.result.now ≡ deed (state_of c.args.self.now) = sym (at ∙ e) ∙ ap (λ k. deed (state_of k)) c.self.view_is in
    ap (λ k. deed_of_outgoing (held k.registers) c.outgoing_at.result) (sym c.self.view_is) ∙ c.outgoing_at.ensures.deed ∙ ap seen is

pub returns-else-from-to-clause-fits : goal.returns-else-from-to-clause-fits
returns-else-from-to-clause-fits c =
    let m = c.self.inside in
    subst (λ k. OutgoingFits (length k.registers) k.lists.deal.hosts c.outgoing_at.result) c.self.view_is
    (c.outgoing_at.ensures.fits m.lists.deal.hosts (packet_at m.lists.deal.hosts m.code.items c.in-Run.from c.index.result.now c.self.invariant.3 (within m.registers.items m.code.items c.in-Run.from c.in-Run.to m.top c.in-Run.is c.self.invariant.0.top (omega arith)) c.index.ensures))
