use Rattle.std.proofs.Common.{◌∙◌}
use Rattle.vd_shell.specs.Reasons.{seal_text}
use Rattle.vd_shell.specs.Telling.{peer_reason}
use Rattle.vd_shell.proofs.InTurn.{tells_two}
use Rattle.vd_shell.proofs.telling.tell_links.Goals as goal

pub returns : goal.returns
returns g c =
    tells_two c.args.host.now c.args.host.now (seal_text c.args.reasons.now.seal) (peer_reason c.args.status.now c.args.reasons.now.peer) _ _ (g.E.Sink.view c.args.err.now) (g.E.Sink.view c.tell_some.new.err) (g.E.Sink.view c.tell_some-2.new.err) c.tell_some-2.result
    (c.bytes_of.ensures ∙ c.in_ok-sealed.ensures) (c.bytes_of-2.ensures ∙ c.in_ok-peer.ensures) c.in_ok-tell_some.ensures c.tell_some-2.ensures
