use Rattle.vd_cmd_laws.proofs.Labels.{labels_tell}
use Rattle.vd_cmd_laws.proofs.Proofs.{proofs_tell}
use Rattle.vd_cmd_laws.proofs.Choices.{choices_tell}
use Rattle.vd_cmd_laws.proofs.Compiled.{compiled_tell}
use Rattle.vd_cmd_laws.proofs.cmd_choice_laws.answers_tell.Goals as goal

pub returns : goal.returns
returns c = record { labels = labels_tell; proofs = proofs_tell; choices = choices_tell; compiled = compiled_tell }
