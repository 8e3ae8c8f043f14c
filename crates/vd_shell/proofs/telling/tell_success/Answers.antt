use Rattle.std.proofs.Common.{◌∙◌, None, option_map}
use Rattle.vd_shell.specs.Reasons.{sent_text}
use Rattle.vd_shell.specs.Telling.{passed_text}
use Rattle.vd_shell.proofs.InTurn.{tells_two}
use Rattle.vd_shell.proofs.telling.tell_success.Goals as goal

pub returns : goal.returns
returns g c =
    tells_two c.args.host.now None (passed_text c.args.host.now c.args.passed) (option_map (λ n. sent_text n) c.args.sent) _ _ (g.E.Sink.view c.args.err.now) (g.E.Sink.view c.tell_some.new.err) (g.E.Sink.view c.tell_some-2.new.err) c.tell_some-2.result
    (c.string_of.ensures ∙ c.in_ok-passed.ensures) (c.string_of-2.ensures ∙ c.in_ok-sent.ensures) c.in_ok-tell_some.ensures c.tell_some-2.ensures
