use Rattle.vd_words.proofs.Numbers.{five_is_shared, seven_times_six}
use Rattle.vd_words.proofs.laws.worked_numbers.Goals as goal

pub returns-clause-share : goal.returns-clause-share
returns-clause-share c = five_is_shared

pub returns-clause-product : goal.returns-clause-product
returns-clause-product c = seven_times_six
