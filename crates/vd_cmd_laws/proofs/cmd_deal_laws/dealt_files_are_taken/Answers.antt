use Rattle.vd_cmd_laws.proofs.CmdDealLawsShort.{texts_are_short}
use Rattle.vd_cmd_laws.proofs.Taken.{deals_tell}
use Rattle.vd_cmd_laws.proofs.cmd_deal_laws.dealt_files_are_taken.Goals as goal

pub returns : goal.returns
returns c = record { deals = deals_tell; short = texts_are_short }
