use Rattle.vd_tape.proofs.Streams.{filled}
use Rattle.vd_tape.proofs.making.number_key.Goals as goal

pub returns : goal.returns
returns c = filled c.args.number c.copy_from_slice.new.self c.to_le_bytes.result c.copy_from_slice.ensures.after c.to_le_bytes.ensures
