use Rattle.vd_integrity_runs.proofs.Deciding.{words_decide}
use Rattle.vd_integrity_runs.proofs.integrity_endorsed.laws.words_decide_what_is_trusted.Goals as goal

pub returns : goal.returns
returns c = words_decide
