use Rattle.vd_report.proofs.SectionsRead.{sections_read}
use Rattle.vd_report.proofs.laws.sections_are_read.Goals as goal

pub returns : goal.returns
returns c = sections_read
