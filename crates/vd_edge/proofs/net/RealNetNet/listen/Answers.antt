use Rattle.std.proofs.Common.{rules}
use Rattle.vd_edge.proofs.net.RealNetNet.listen.Goals as goal

pub returns-in-Ok-clause-at_address : goal.returns-in-Ok-clause-at_address
returns-in-Ok-clause-at_address g c = (c.in-Ok.listener, search rules, c.in-Ok.ensures)
