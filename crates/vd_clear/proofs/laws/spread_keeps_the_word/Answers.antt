use Rattle.vd_clear.proofs.ClearLaws.{spread_law}
use Rattle.vd_clear.proofs.ClearActs.{spread_acts}
use Rattle.vd_clear.proofs.laws.spread_keeps_the_word.Goals as goal

pub returns-clause-word : goal.returns-clause-word
returns-clause-word c = spread_law

pub returns-clause-acts : goal.returns-clause-acts
returns-clause-acts c = spread_acts
