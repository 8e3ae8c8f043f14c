use Rattle.vd_deal_versions.proofs.DealtExact.{written_is_read}
use Rattle.vd_deal_versions.proofs.laws.written_secrets_are_read.Goals as goal

pub returns : goal.returns
returns c = written_is_read
