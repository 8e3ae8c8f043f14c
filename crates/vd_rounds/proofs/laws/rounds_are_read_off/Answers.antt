use Rattle.vd_rounds.proofs.ClockBounds.{rounds_are_read_off}
use Rattle.vd_rounds.proofs.laws.rounds_are_read_off.Goals as goal

pub returns : goal.returns
returns c = rounds_are_read_off
