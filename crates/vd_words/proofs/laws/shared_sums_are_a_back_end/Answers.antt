use Rattle.vd_words.proofs.AddLaws.{add_laws, add_acts}
use Rattle.vd_words.proofs.laws.shared_sums_are_a_back_end.Goals as goal

pub returns : goal.returns
returns c = λ a b apart. (add_laws a b apart, add_acts a b)
