use Rattle.vd_link.proofs.Streams.{one_reading}
use Rattle.vd_link.proofs.laws.streams_have_one_reading.Goals as goal

pub returns : goal.returns
returns c = one_reading
