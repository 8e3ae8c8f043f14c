use Rattle.vd_noninter_protocols.proofs.NewWords.{new_words_tell}
use Rattle.vd_noninter_protocols.proofs.noninter_assigned.laws.new_words_tell_all.Goals as goal

pub returns : goal.returns
returns c = new_words_tell
