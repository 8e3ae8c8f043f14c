use Rattle.vd_base.specs.Lexical.{keywords}
use Rattle.vd_lsp.proofs.names.push_keywords.Goals as goal

pub returns : goal.returns
unfolding keywords
returns c = c.push_fixed.ensures
