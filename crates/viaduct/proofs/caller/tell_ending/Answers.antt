use Rattle.std.proofs.Common.{◌∙◌, OnOk, refl, subst, sym}
use Rattle.viaduct.specs.Telling.{IsTold}
use Rattle.viaduct.specs.declared.caller.Telling.{Telling}
use Rattle.viaduct.proofs.caller.tell_ending.Goals as goal

pub returns-in-Nothing : goal.returns-in-Nothing
returns-in-Nothing g c =
    subst (λ (t : Telling). IsTold t c.args.ending.now.status c.args.ending.now.packets g.K.Known.is_host g.K.Known.is_passed g.K.Known.is_reasons (g.E.Sink.view c.args.err.now) (g.E.Sink.view c.args.err.now))
    (sym c.in-Nothing.is ∙ c.telling_of.ensures) refl

pub returns-in-Packets : goal.returns-in-Packets
returns-in-Packets g c =
    subst (λ (t : Telling). OnOk c.tell_packets.result (IsTold t c.args.ending.now.status c.args.ending.now.packets g.K.Known.is_host g.K.Known.is_passed g.K.Known.is_reasons (g.E.Sink.view c.args.err.now) (g.E.Sink.view c.tell_packets.new.err)))
    (sym c.in-Packets.is ∙ c.telling_of.ensures) c.tell_packets.ensures

pub returns-in-Fault : goal.returns-in-Fault
returns-in-Fault g c =
    subst (λ (t : Telling). OnOk c.tell_reasons.result (IsTold t c.args.ending.now.status c.args.ending.now.packets g.K.Known.is_host g.K.Known.is_passed g.K.Known.is_reasons (g.E.Sink.view c.args.err.now) (g.E.Sink.view c.tell_reasons.new.err)))
    (sym c.in-Fault.is ∙ c.telling_of.ensures) c.tell_reasons.ensures

pub returns-in-NoText : goal.returns-in-NoText
returns-in-NoText g c =
    subst (λ (t : Telling). OnOk c.tell_no_text.result (IsTold t c.args.ending.now.status c.args.ending.now.packets g.K.Known.is_host g.K.Known.is_passed g.K.Known.is_reasons (g.E.Sink.view c.args.err.now) (g.E.Sink.view c.tell_no_text.new.err)))
    (sym c.in-NoText.is ∙ c.telling_of.ensures) c.tell_no_text.ensures
