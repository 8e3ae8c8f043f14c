use Rattle.vd_channel_crypto.proofs.Distinct.{gives_back}
use Rattle.vd_channel_crypto.proofs.laws.records_give_back_their_bytes.Goals as goal

pub returns-clause-record : goal.returns-clause-record
returns-clause-record c = gives_back
