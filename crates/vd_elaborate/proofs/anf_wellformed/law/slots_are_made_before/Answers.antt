use Rattle.vd_elaborate.proofs.Seeing.{made_before}
use Rattle.vd_elaborate.proofs.anf_wellformed.law.slots_are_made_before.Goals as goal

pub returns : goal.returns
returns c = made_before
