use Rattle.vd_backend_laws.proofs.Given.{listed_protocols_are_over, zero_deals_are_valid}
use Rattle.vd_backend_laws.proofs.protocols_and_deals.Goals as goal

pub returns-clause-protocols : goal.returns-clause-protocols
returns-clause-protocols c = listed_protocols_are_over

pub returns-clause-deals : goal.returns-clause-deals
returns-clause-deals c = zero_deals_are_valid
