use Rattle.vd_deal_versions.proofs.LastLine.{changed_are_refused}
use Rattle.vd_deal_versions.proofs.laws.changed_deals_are_refused.Goals as goal

pub returns : goal.returns
returns c = changed_are_refused
