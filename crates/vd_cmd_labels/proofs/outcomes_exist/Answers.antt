use Rattle.vd_cmd_labels.proofs.Reading.{some_texts, some_labels}
use Rattle.vd_cmd_labels.proofs.outcomes_exist.Goals as goal

pub returns : goal.returns
returns c = record { texts = some_texts; labels = some_labels }
