use Rattle.std.proofs.Common.{◌≡◌, ◌++◌, [], IsTrue, rules}
use Rattle.vd_channel_crypto.specs.Keys.{direction}
use Rattle.vd_channel_crypto.specs.Records.{sealed}
use Rattle.vd_channel_link.proofs.Refused.{told}
use Rattle.vd_channel_link.proofs.Saying.{all_out}
use Rattle.vd_channel_link.proofs.channel_handshake.meeting.prove_both.Goals as goal

pub returns-clause-out : goal.returns-clause-out
returns-clause-out g c =
    let before = g.N.Link.Link.view c.args.link.now in
    let mid = g.N.Link.Link.view c.await_bytes.new.link in
    let sent : IsTrue mid.told → mid.sent ≡ before.sent ++ sealed (direction c.args.ours.now) 0 [] = search rules in
    all_out (sealed (direction c.args.ours.now) 0 []) before mid (g.N.Link.Link.view c.take_proof.new.link) (λ t. told _ _ c.take_proof.ensures.takes.still_told t) sent c.take_proof.ensures.takes.sent
