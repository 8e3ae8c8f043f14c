use Rattle.vd_elaborate.proofs.Kept.{outputs_kept}
use Rattle.vd_elaborate.proofs.anf.law.outputs_are_kept.Goals as goal

pub returns : goal.returns
returns c = outputs_kept
