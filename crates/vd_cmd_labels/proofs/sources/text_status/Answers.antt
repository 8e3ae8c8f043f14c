use Rattle.vd_cmd_labels.proofs.Reading.{text_carried}
use Rattle.vd_cmd_labels.proofs.sources.text_status.Goals as goal

pub returns-in_default : goal.returns-in_default
returns-in_default c = λ name. text_carried name c.args.fault c.requires c.in_default.not-Memory
