use Rattle.vd_elaborate.proofs.Front.{well_made}
use Rattle.vd_elaborate.specs.Normal.{normal_form}
use Rattle.vd_cmd_labels.proofs.Systems.{program_system}
use Rattle.vd_cmd_labels.proofs.labels_systems.resolved_sources_have_systems.Goals as goal

pub returns : goal.returns
returns c = λ source resolved named. program_system (normal_form source) (well_made source resolved named)
