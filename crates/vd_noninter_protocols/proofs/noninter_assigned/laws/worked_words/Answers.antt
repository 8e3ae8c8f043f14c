use Rattle.vd_noninter_protocols.proofs.Examples.{worked}
use Rattle.vd_noninter_protocols.proofs.noninter_assigned.laws.worked_words.Goals as goal

pub returns : goal.returns
returns c = worked
