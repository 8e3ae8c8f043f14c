use Rattle.std.proofs.Common.{Err, ap}
use Rattle.vd_channel_link.proofs.Answering.{hung_up_answered}
use Rattle.vd_channel_link.proofs.channel_net.answered.take_proven.Goals as goal

pub returns-in-Err-clause-hung_up : goal.returns-in-Err-clause-hung_up
returns-in-Err-clause-hung_up g c seal tried peer came is =
    let fails = c.in-Err.ensures {u = tt} in
    hung_up_answered seal tried peer (c.args.answered.ours, c.args.answered.theirs) came (g.N.Link.Link.view c.args.answered.link) (g.N.Link.Link.view c.take_proof.new.link) c.in-Err.fault
    (g.N.Net.view c.args.net.now) (g.N.Net.view c.hang_up.new.self) is fails.takes.still_told (λ is_peer. fails.takes.failed (ap Err is_peer)) fails.refused c.hang_up.ensures
