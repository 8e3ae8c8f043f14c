use Rattle.vd_channel_crypto.proofs.Ends.{link_of}
use Rattle.vd_channel_crypto.proofs.deal_keys.secrets.link_to.Goals as goal

pub returns : goal.returns
returns c = link_of c.args.counts c.args.key.now c.args.me c.args.place c.peer_at-peer.result c.min.result c.max.result c.link_key.result c.peer_at-peer.ensures c.min.ensures c.max.ensures c.link_key.ensures
