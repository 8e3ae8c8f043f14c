use Rattle.vd_deal_versions.proofs.DealtExact.{follow_grammar}
use Rattle.vd_deal_versions.proofs.laws.dealt_files_follow_the_grammar.Goals as goal

pub returns : goal.returns
returns c = follow_grammar
