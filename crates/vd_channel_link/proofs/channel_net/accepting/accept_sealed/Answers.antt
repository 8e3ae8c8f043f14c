use Rattle.std.proofs.Common.{refl}
use Rattle.vd_channel_link.specs.Outgoing.{sealer_of}
use Rattle.vd_channel_link.specs.Seals.{IsKeyless, awaited_at}
use Rattle.vd_channel_link.specs.Waits.{NoKey, post_of}
use Rattle.vd_channel_link.proofs.Sealed.{seals_then}
use Rattle.vd_channel_link.proofs.Tried.{no_key}
use Rattle.vd_channel_link.proofs.Turns.{comes_after, gave_up, gives_sealed, was_over}
use Rattle.vd_channel_link.proofs.channel_net.accepting.accept_sealed.Goals as goal

pub returns-in_default-clause-gives_up : goal.returns-in_default-clause-gives_up
returns-in_default-clause-gives_up g c = NoKey (no_key c.args.seal.now c.awaited_at-peer.result.0 _ c.awaited_at-peer.ensures (c.in_default.ensures {u = tt}).none) refl

pub returns-clause-over : goal.returns-clause-over
returns-clause-over g c =
    let post = post_of c.args.seal.now c.args.listener in
    let start = g.N.Net.view c.args.net.now in
    let mid = g.N.Net.view c.await_peer-given.new.net in
    let so = was_over g.N.Link.Link.view post start c.await_peer-given.new.seal mid c.await_peer-given.new.waiting.items c.await_peer-given.result
    c.await_peer-given.ensures.gives c.await_peer-given.ensures.ends in
    seals_then (sealer_of c.args.seal.now) start mid (g.N.Net.view c.hang_up_all.new.net) so.stays.over (c.hang_up_all.ensures.over post c.await_peer-given.new.seal.tried so.waiting so.are)

pub returns-clause-sealed : goal.returns-clause-sealed
returns-clause-sealed g c =
    gives_sealed g.N.Link.Link.view (post_of c.args.seal.now c.args.listener) (g.N.Net.view c.args.net.now) c.await_peer-given.new.seal (g.N.Net.view c.await_peer-given.new.net)
    c.await_peer-given.new.waiting.items c.await_peer-given.result c.await_peer-given.ensures.gives

pub returns-clause-comes : goal.returns-clause-comes
returns-clause-comes g c =
    comes_after g.N.Link.Link.view (post_of c.args.seal.now c.args.listener) (g.N.Net.view c.args.net.now) c.await_peer-given.new.seal (g.N.Net.view c.await_peer-given.new.net)
    (g.N.Net.view c.hang_up_all.new.net) c.await_peer-given.new.waiting.items c.await_peer-given.result c.await_peer-given.ensures.gives c.hang_up_all.ensures.hung_up

pub returns-clause-gives_up : goal.returns-clause-gives_up
returns-clause-gives_up g c =
    gave_up g.N.Link.Link.view (post_of c.args.seal.now c.args.listener) (IsKeyless c.args.seal.now (awaited_at c.args.seal.now c.args.listener)) (g.N.Net.view c.args.net.now)
    c.await_peer-given.new.seal (g.N.Net.view c.await_peer-given.new.net) (g.N.Net.view c.hang_up_all.new.net) c.await_peer-given.new.waiting.items c.await_peer-given.result
    c.await_peer-given.ensures.ends c.hang_up_all.ensures.hung_up
