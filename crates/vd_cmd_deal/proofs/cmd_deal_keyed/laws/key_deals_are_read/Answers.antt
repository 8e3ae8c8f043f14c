use Rattle.vd_cmd_deal.proofs.ReadBack.{read_back}
use Rattle.vd_cmd_deal.proofs.cmd_deal_keyed.laws.key_deals_are_read.Goals as goal

pub returns : goal.returns
returns c = read_back
