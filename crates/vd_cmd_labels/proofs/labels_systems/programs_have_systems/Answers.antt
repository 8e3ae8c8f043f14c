use Rattle.vd_cmd_labels.proofs.Systems.{program_system}
use Rattle.vd_cmd_labels.proofs.labels_systems.programs_have_systems.Goals as goal

pub returns : goal.returns
returns c = program_system
