use Rattle.vd_rounds.proofs.LoadBytes.{bytes_are_counted}
use Rattle.vd_rounds.proofs.laws.bytes_are_counted.Goals as goal

pub returns : goal.returns
returns c = bytes_are_counted
