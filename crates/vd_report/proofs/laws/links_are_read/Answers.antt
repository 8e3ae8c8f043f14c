use Rattle.vd_report.proofs.LinksRead.{links_read}
use Rattle.vd_report.proofs.laws.links_are_read.Goals as goal

pub returns : goal.returns
returns c = links_read
