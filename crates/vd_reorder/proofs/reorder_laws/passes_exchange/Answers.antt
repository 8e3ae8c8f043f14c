use Rattle.vd_reorder.proofs.ReorderLawsPassing.{pass_exchanges}
use Rattle.vd_reorder.proofs.reorder_laws.passes_exchange.Goals as goal

pub returns : goal.returns
returns c = pass_exchanges
