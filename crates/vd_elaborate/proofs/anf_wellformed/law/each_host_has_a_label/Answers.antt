use Rattle.vd_elaborate.proofs.Labels.{label_for_each}
use Rattle.vd_elaborate.proofs.anf_wellformed.law.each_host_has_a_label.Goals as goal

pub returns : goal.returns
returns c = label_for_each
