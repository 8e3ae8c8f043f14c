use Rattle.vd_deal_needs.proofs.DealNeedsLawsTaken.{exactly, least}
use Rattle.vd_deal_needs.proofs.deal_needs_laws.needs_are_least.Goals as goal

pub returns-clause-exact : goal.returns-clause-exact
returns-clause-exact c = exactly

pub returns-clause-least : goal.returns-clause-least
returns-clause-least c = least
