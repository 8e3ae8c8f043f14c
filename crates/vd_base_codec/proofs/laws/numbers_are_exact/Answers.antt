use Rattle.vd_base_codec.proofs.Numbers.{number_exact, field_exact}
use Rattle.vd_base_codec.proofs.laws.numbers_are_exact.Goals as goal

pub returns : goal.returns
returns c = record { number = number_exact; field = field_exact }
