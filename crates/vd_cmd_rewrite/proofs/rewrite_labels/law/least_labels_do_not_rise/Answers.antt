use Rattle.vd_cmd_rewrite.proofs.KeptLabels.{least_kept}
use Rattle.vd_cmd_rewrite.proofs.rewrite_labels.law.least_labels_do_not_rise.Goals as goal

pub returns : goal.returns
returns c = least_kept
