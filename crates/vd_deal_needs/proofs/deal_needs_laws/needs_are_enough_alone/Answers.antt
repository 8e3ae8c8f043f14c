use Rattle.vd_deal_needs.proofs.Alone.{enough_alone}
use Rattle.vd_deal_needs.proofs.deal_needs_laws.needs_are_enough_alone.Goals as goal

pub returns : goal.returns
returns c = enough_alone
