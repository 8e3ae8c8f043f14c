use Rattle.vd_report.proofs.LabelsRead.{labels_written}
use Rattle.vd_report.proofs.laws.labels_are_written.Goals as goal

pub returns : goal.returns
returns c = labels_written
