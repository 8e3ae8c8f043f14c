use Rattle.vd_source_lexer.proofs.Lawful.{only_tree}
use Rattle.vd_source_lexer.proofs.source_ll1.one_tree.Goals as goal

pub returns : goal.returns
returns g c = λ rule kind F E n ll1 ones e h o ts x y g' k. only_tree _ _ rule kind F E n ll1 ones e h o ts x y g' k
