use Rattle.vd_channel_crypto.proofs.Pieces.{link_key_as}
use Rattle.vd_channel_crypto.proofs.hellos.link_key.Goals as goal

pub returns : goal.returns
returns c = link_key_as c.args.link.now c.args.digest.now c.copy_from_slice.new.self c.args.purpose c.args.sender.0 c.hmac.result c.copy_from_slice.ensures.after c.hmac.ensures
