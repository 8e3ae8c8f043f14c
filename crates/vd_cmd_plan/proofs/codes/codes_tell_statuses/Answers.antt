use Rattle.vd_cmd_plan.proofs.Telling.{codes_tell_words, told, zero_is_ended}
use Rattle.vd_cmd_plan.proofs.codes.codes_tell_statuses.Goals as goal

pub returns-clause-ended : goal.returns-clause-ended
returns-clause-ended c = zero_is_ended

pub returns-clause-words : goal.returns-clause-words
returns-clause-words c = codes_tell_words

pub returns-clause-listed : goal.returns-clause-listed
returns-clause-listed c = told
