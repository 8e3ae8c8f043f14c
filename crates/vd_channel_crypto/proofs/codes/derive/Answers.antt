use Rattle.vd_channel_crypto.proofs.Pieces.{derived_as}
use Rattle.vd_channel_crypto.proofs.codes.derive.Goals as goal

pub returns : goal.returns
returns c = derived_as c.args.salt.now c.args.input.now c.args.purpose.now c.args.more.now _ _ c.hmac.ensures c.hmac-extracted.ensures
