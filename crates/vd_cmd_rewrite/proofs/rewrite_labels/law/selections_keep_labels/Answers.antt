use Rattle.vd_cmd_rewrite.proofs.KeptLabels.{keeps}
use Rattle.vd_cmd_rewrite.proofs.rewrite_labels.law.selections_keep_labels.Goals as goal

pub returns : goal.returns
returns c = keeps
