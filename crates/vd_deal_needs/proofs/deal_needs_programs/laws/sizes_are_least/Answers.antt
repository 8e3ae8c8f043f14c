use Rattle.vd_deal_needs.proofs.Enough.{sizes_are_least}
use Rattle.vd_deal_needs.proofs.deal_needs_programs.laws.sizes_are_least.Goals as goal

pub returns : goal.returns
returns c = sizes_are_least
