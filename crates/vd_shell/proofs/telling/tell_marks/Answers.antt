use Rattle.vd_shell.specs.Telling.{anew_text}
use Rattle.vd_shell.proofs.InTurn.{tells_two}
use Rattle.vd_shell.proofs.telling.tell_marks.Goals as goal

pub returns : goal.returns
returns g c =
    tells_two c.args.host.now c.args.host.now c.args.reasons.now.mark (anew_text c.args.status.now) _ _ (g.E.Sink.view c.args.err.now) (g.E.Sink.view c.tell_some.new.err) (g.E.Sink.view c.tell_some-2.new.err) c.tell_some-2.result
    c.text_of.ensures c.anew_text.ensures c.in_ok-tell_some.ensures c.tell_some-2.ensures
