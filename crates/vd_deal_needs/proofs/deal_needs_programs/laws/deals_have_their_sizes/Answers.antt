use Rattle.vd_deal_needs.proofs.Made.{deals_have_their_sizes}
use Rattle.vd_deal_needs.proofs.deal_needs_programs.laws.deals_have_their_sizes.Goals as goal

pub returns : goal.returns
returns c = deals_have_their_sizes
