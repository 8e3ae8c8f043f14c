use Rattle.vd_source_lexer.proofs.Lawful.{texts_trees}
use Rattle.vd_source_lexer.proofs.source_ll1.texts_have_trees.Goals as goal

pub returns : goal.returns
returns g c = λ rule kind e ts. texts_trees _ _ rule kind e ts
