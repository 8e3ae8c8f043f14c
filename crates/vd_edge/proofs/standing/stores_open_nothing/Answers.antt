use Rattle.vd_edge.proofs.Opened.{stores_open}
use Rattle.vd_edge.proofs.standing.stores_open_nothing.Goals as goal

pub returns : goal.returns
returns c = stores_open
