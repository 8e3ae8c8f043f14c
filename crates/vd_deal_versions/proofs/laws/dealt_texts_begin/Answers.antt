use Rattle.vd_deal_versions.proofs.Begins.{texts_begin}
use Rattle.vd_deal_versions.proofs.laws.dealt_texts_begin.Goals as goal

pub returns : goal.returns
returns c = texts_begin
