use Rattle.vd_shell.proofs.InTurn.{tells_two}
use Rattle.vd_shell.proofs.telling.tell_files.Goals as goal

pub returns : goal.returns
returns g c =
    tells_two c.args.host.now c.args.host.now c.args.reasons.now.files c.args.reasons.now.written _ _ (g.E.Sink.view c.args.err.now) (g.E.Sink.view c.tell_some.new.err) (g.E.Sink.view c.tell_some-2.new.err) c.tell_some-2.result
    c.text_of.ensures c.text_of-2.ensures c.in_ok-tell_some.ensures c.tell_some-2.ensures
