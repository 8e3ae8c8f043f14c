use Rattle.vd_source_lexer.proofs.TokenLaws.{lexes_once}
use Rattle.vd_source_lexer.proofs.lexer.lexing_is_determined.Goals as goal

pub returns : goal.returns
returns c = lexes_once
