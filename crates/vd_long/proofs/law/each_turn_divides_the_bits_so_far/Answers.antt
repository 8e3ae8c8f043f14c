use Rattle.vd_long.proofs.DivisionWords.{is_divided}
use Rattle.vd_long.proofs.law.each_turn_divides_the_bits_so_far.Goals as goal

pub returns : goal.returns
returns c = is_divided
