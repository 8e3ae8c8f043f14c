use Rattle.vd_cmd_rewrite.proofs.KeptLabels.{turned_labelled}
use Rattle.vd_cmd_rewrite.proofs.rewrite_labels.law.turned_programs_can_be_labelled.Goals as goal

pub returns : goal.returns
returns c = turned_labelled
