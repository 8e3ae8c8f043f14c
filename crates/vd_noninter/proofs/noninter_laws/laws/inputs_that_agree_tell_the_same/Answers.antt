use Rattle.vd_noninter.proofs.Theorem.{reads_learns}
use Rattle.vd_noninter.proofs.noninter_laws.laws.inputs_that_agree_tell_the_same.Goals as goal

pub returns : goal.returns
returns c = reads_learns
