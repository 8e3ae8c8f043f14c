use Rattle.vd_noninter_protocols.proofs.Theorem.{all_hear_readable}
use Rattle.vd_noninter_protocols.proofs.noninter_assigned.laws.inputs_that_agree_bring_the_same.Goals as goal

pub returns : goal.returns
returns c = all_hear_readable
