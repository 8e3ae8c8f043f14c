use Rattle.vd_deal_needs.proofs.DealNeedsLawsTaken.{enough, nobody_short, all_end}
use Rattle.vd_deal_needs.proofs.deal_needs_laws.needs_are_enough.Goals as goal

pub returns-clause-suffices : goal.returns-clause-suffices
returns-clause-suffices c = enough

pub returns-clause-nobody_short : goal.returns-clause-nobody_short
returns-clause-nobody_short c = nobody_short

pub returns-clause-all_end : goal.returns-clause-all_end
returns-clause-all_end c = all_end
