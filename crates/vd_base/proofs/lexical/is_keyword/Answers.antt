use Rattle.vd_base.specs.Lexical.{keywords}
use Rattle.vd_base.proofs.lexical.is_keyword.Goals as goal

pub returns : goal.returns
unfolding keywords
returns c = c.contains.ensures.value
