use Rattle.vd_host_session.proofs.ComingBack.{links_come_back}
use Rattle.vd_host_session.proofs.laws.links_come_back.Goals as goal

pub returns : goal.returns
returns c = links_come_back
