use Rattle.std.proofs.Common.{Err, ap, subst}
use Rattle.vd_base.specs.declared.ids.HostId.{HostId}
use Rattle.vd_outside.specs.Net.{HangsUp, NetView}
use Rattle.vd_channel_link.specs.Outgoing.{sealer_of}
use Rattle.vd_channel_link.proofs.Reached.{left_for}
use Rattle.vd_channel_link.proofs.Sealed.{greeted_with, greeting_out, seals_hangs_up, seals_none, seals_then}
use Rattle.vd_channel_link.proofs.channel_net.sealed_net.meet_over.Goals as goal

pub returns-in-Ok-clause-over : goal.returns-in-Ok-clause-over
returns-in-Ok-clause-over g c unsent = seals_none _ _ _ c.ask.ensures.net

pub returns-in-Err-clause-over : goal.returns-in-Err-clause-over
returns-in-Err-clause-over g c unsent =
    let hello = c.next_hello-hello.ensures in
    let greeted = greeted_with c.args.seal.now c.next_hello-hello.result c.args.peer.0 c.args.key.now hello.id hello.from (ap (λ (h : HostId). h.0) hello.to) hello.nonce c.requires.key in
    let by = sealer_of c.args.seal.now in
    seals_then by (g.N.Net.view c.args.net.now) (g.N.Net.view c.ask.new.net) (g.N.Net.view c.hang_up.new.self)
    (seals_none by (g.N.Net.view c.args.net.now) (g.N.Net.view c.ask.new.net) c.ask.ensures.net)
    (seals_hangs_up by (g.N.Link.Link.view c.ask.new.link) (g.N.Net.view c.ask.new.net) (g.N.Net.view c.hang_up.new.self) c.hang_up.ensures
    (λ told unused. greeting_out by greeted (g.N.Link.Link.view c.args.link) (g.N.Link.Link.view c.ask.new.link) unsent c.ask.ensures.out))

pub returns-in-Err-clause-left : goal.returns-in-Err-clause-left
returns-in-Err-clause-left g c =
    let hello = c.next_hello-hello.ensures in
    let asked = c.in-Err.ensures {u = tt} in
    let link = g.N.Link.Link.view c.ask.new.link in
    let left = left_for c.args.seal.now c.next_hello-hello.result c.args.peer.0 c.args.key.now (g.N.Link.Link.view c.args.link) link c.in-Err.fault
    hello.id hello.from (ap (λ (h : HostId). h.0) hello.to) hello.nonce c.requires.key (λ is_peer. asked.meets.failed (ap Err is_peer)) asked.refused in
    (link, left, subst (λ (n : NetView). HangsUp link n (g.N.Net.view c.hang_up.new.self)) c.ask.ensures.net c.hang_up.ensures)
