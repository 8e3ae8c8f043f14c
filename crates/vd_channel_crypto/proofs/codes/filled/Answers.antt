use Rattle.vd_channel_crypto.proofs.Pieces.{filled_as}
use Rattle.vd_channel_crypto.proofs.codes.filled.Goals as goal

pub returns : goal.returns
returns c = filled_as c.args.key.now c.copy_from_slice.new.self c.copy_from_slice.ensures.after
