use Rattle.vd_cmd_laws.proofs.KeyedTaken.{keyed_deals_tell}
use Rattle.vd_cmd_laws.proofs.SecretShort.{secret_texts_are_short}
use Rattle.vd_cmd_laws.proofs.cmd_deal_laws.keyed_dealt_files_are_taken.Goals as goal

pub returns : goal.returns
returns c = record { deals = keyed_deals_tell; short = secret_texts_are_short }
