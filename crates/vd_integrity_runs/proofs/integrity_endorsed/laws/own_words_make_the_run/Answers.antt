use Rattle.vd_integrity_runs.proofs.Own.{own_words}
use Rattle.vd_integrity_runs.proofs.integrity_endorsed.laws.own_words_make_the_run.Goals as goal

pub returns : goal.returns
returns c = own_words
