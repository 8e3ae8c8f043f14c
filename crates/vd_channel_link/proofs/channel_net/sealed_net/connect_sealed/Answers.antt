use Rattle.std.proofs.Common.{refl, ap}
use Rattle.std.proofs.lemmas.Result.{err_from_is_err_and}
use Rattle.vd_channel_link.specs.Outgoing.{sealer_of}
use Rattle.vd_channel_link.specs.Waits.{NoMemory, NotConnected}
use Rattle.vd_channel_link.proofs.Reached.{no_key_for, no_number_left, not_greeted}
use Rattle.vd_channel_link.proofs.Sealed.{came_over, connects_unused, given_sealed, seals_connects, seals_none}
use Rattle.vd_channel_link.proofs.channel_net.sealed_net.connect_sealed.Goals as goal

pub returns-in_default-clause-over : goal.returns-in_default-clause-over
returns-in_default-clause-over g c = seals_none _ _ _ refl

pub returns-then-tried-eq4294967295-clause-over : goal.returns-then-tried-eq4294967295-clause-over
returns-then-tried-eq4294967295-clause-over g c = seals_none _ _ _ refl

pub returns-in_err-frame-clause-over : goal.returns-in_err-frame-clause-over
returns-in_err-frame-clause-over g c = seals_none _ _ _ refl

pub returns-in_err-link-clause-over : goal.returns-in_err-link-clause-over
returns-in_err-link-clause-over g c = seals_connects _ c.args.address.now _ _ _ c.connect.ensures

pub returns-in-Ok-clause-over : goal.returns-in-Ok-clause-over
returns-in-Ok-clause-over g c =
    came_over c.args.seal.now c.next_earlier-peer.new.self (g.N.Link.Link.view c.in_ok-link.link) (g.N.Net.view c.args.net.now) (g.N.Net.view c.args.net.now) (g.N.Net.view c.connect.new.self) _
    (ap sealer_of c.next_earlier-peer.ensures.counted) (seals_none _ _ _ refl) (seals_connects _ c.args.address.now _ _ _ c.connect.ensures)
    (connects_unused c.args.address.now _ _ _ (c.in_ok-link.ensures {u = tt})) c.meet_over.ensures.over

pub returns-in-Err-clause-over : goal.returns-in-Err-clause-over
returns-in-Err-clause-over g c =
    came_over c.args.seal.now c.next_earlier-peer.new.self (g.N.Link.Link.view c.in_ok-link.link) (g.N.Net.view c.args.net.now) (g.N.Net.view c.args.net.now) (g.N.Net.view c.connect.new.self) _
    (ap sealer_of c.next_earlier-peer.ensures.counted) (seals_none _ _ _ refl) (seals_connects _ c.args.address.now _ _ _ c.connect.ensures)
    (connects_unused c.args.address.now _ _ _ (c.in_ok-link.ensures {u = tt})) c.meet_over.ensures.over

pub returns-in-Ok-clause-sealed : goal.returns-in-Ok-clause-sealed
returns-in-Ok-clause-sealed g c =
    given_sealed c.args.seal.now c.next_earlier-peer.new.self _ _ _ _ _ _ (g.N.Net.view c.args.net.now) (ap sealer_of c.next_earlier-peer.ensures.counted) (seals_none _ _ _ refl)
    (connects_unused c.args.address.now _ _ _ (c.in_ok-link.ensures {u = tt})) (c.in-Ok.ensures {u = tt}).met

pub returns-in_default-clause-gives_up : goal.returns-in_default-clause-gives_up
returns-in_default-clause-gives_up g c =
    no_key_for c.args.seal.now c.next_earlier-peer.new.self c.next_earlier-peer.result.0 c.args.address.now (g.N.Net.view c.args.net.now)
    c.next_earlier-peer.ensures.counted c.next_earlier-peer.ensures.next (c.in_default.ensures {u = tt}).none

pub returns-then-tried-eq4294967295-clause-gives_up : goal.returns-then-tried-eq4294967295-clause-gives_up
returns-then-tried-eq4294967295-clause-gives_up g c =
    no_number_left c.args.seal.now c.next_earlier-peer.new.self c.tried.result c.args.address.now (g.N.Net.view c.args.net.now)
    c.next_earlier-peer.ensures.counted c.tried.ensures c.if-tried-eq4294967295.true

pub returns-in_err-frame-clause-gives_up : goal.returns-in_err-frame-clause-gives_up
returns-in_err-frame-clause-gives_up g c =
    let p = err_from_is_err_and c.from_residual.result c.from_residual.ensures.1 in
    rw (p.1, p.2) (NoMemory refl)

pub returns-in_err-link-clause-gives_up : goal.returns-in_err-link-clause-gives_up
returns-in_err-link-clause-gives_up g c =
    let p = err_from_is_err_and c.from_residual-in_err-link.result c.from_residual-in_err-link.ensures.1 in
    rw (p.1, p.2) (NotConnected c.in_err-link.field-0.0 (c.in_err-link.ensures {u = tt}))

pub returns-in-Err-clause-gives_up : goal.returns-in-Err-clause-gives_up
returns-in-Err-clause-gives_up g c =
    let left = (c.in-Err.ensures {u = tt}).left in
    not_greeted c.args.seal.now c.next_earlier-peer.new.self c.next_earlier-peer.result.0 c.args.address.now (g.N.Net.view c.args.net.now)
    (g.N.Net.view c.connect.new.self) (g.N.Net.view c.meet_over.new.net) (g.N.Link.Link.view c.in_ok-link.link) left.0 c.in-Err.fault
    c.next_earlier-peer.ensures.counted c.next_earlier-peer.ensures.next (c.in_ok-link.ensures {u = tt}) left.1 left.2
