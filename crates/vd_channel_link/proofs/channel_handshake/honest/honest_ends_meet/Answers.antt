use Rattle.vd_channel_link.proofs.Agreeing.{ends_meet}
use Rattle.vd_channel_link.proofs.channel_handshake.honest.honest_ends_meet.Goals as goal

pub returns : goal.returns
returns c = ends_meet
