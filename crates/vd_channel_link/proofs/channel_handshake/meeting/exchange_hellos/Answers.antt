use Rattle.std.proofs.Common.{◌≡◌, ◌++◌, IsTrue, rules}
use Rattle.vd_channel_crypto.specs.Hellos.{hello_bytes}
use Rattle.vd_channel_link.proofs.Refused.{told}
use Rattle.vd_channel_link.proofs.Saying.{all_out}
use Rattle.vd_channel_link.proofs.channel_handshake.meeting.exchange_hellos.Goals as goal

pub returns-clause-out : goal.returns-clause-out
returns-clause-out g c =
    let before = g.N.Link.Link.view c.args.link.now in
    let mid = g.N.Link.Link.view c.await_bytes.new.link in
    let sent : IsTrue mid.told → mid.sent ≡ before.sent ++ hello_bytes c.args.mine.now = search rules in
    all_out (hello_bytes c.args.mine.now) before mid (g.N.Link.Link.view c.take_hello.new.link) (λ t. told _ _ c.take_hello.ensures.takes.still_told t) sent c.take_hello.ensures.takes.sent
