use Rattle.vd_cmd_deal.proofs.WholeKeys.{keys_whole}
use Rattle.vd_cmd_deal.proofs.cmd_deal_keyed.laws.keys_are_whole.Goals as goal

pub returns : goal.returns
returns c = keys_whole
