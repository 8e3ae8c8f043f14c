use Rattle.vd_integrity_runs.proofs.IntegrityBackendsExample.{two_words_for_one}
use Rattle.vd_integrity_runs.proofs.integrity_backends.laws.two_words_for_one.Goals as goal

pub returns : goal.returns
returns c = two_words_for_one
