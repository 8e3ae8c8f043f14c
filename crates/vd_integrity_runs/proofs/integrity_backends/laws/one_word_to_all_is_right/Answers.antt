use Rattle.vd_integrity_runs.proofs.OneWord.{one_word_to_all_is_right}
use Rattle.vd_integrity_runs.proofs.integrity_backends.laws.one_word_to_all_is_right.Goals as goal

pub returns : goal.returns
returns c = one_word_to_all_is_right
