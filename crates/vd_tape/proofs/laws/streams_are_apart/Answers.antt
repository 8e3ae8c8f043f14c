use Rattle.vd_tape.proofs.Apart.{apart}
use Rattle.vd_tape.proofs.laws.streams_are_apart.Goals as goal

pub returns : goal.returns
returns c = apart
