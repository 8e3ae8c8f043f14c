use Rattle.vd_bits.proofs.Numbers.{eight_is_in_both}
use Rattle.vd_bits.proofs.laws.worked_bits.Goals as goal

pub returns : goal.returns
returns c = eight_is_in_both
