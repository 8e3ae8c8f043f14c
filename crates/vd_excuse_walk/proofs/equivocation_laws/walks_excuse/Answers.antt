use Rattle.vd_excuse_walk.proofs.WalkedActs.{walks_excuse}
use Rattle.vd_excuse_walk.proofs.equivocation_laws.walks_excuse.Goals as goal

pub returns : goal.returns
returns c = walks_excuse
