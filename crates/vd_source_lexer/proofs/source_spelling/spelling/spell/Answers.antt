use Rattle.vd_source_lexer.proofs.SpelledLaws.{given}
use Rattle.vd_source_lexer.proofs.source_spelling.spelling.spell.Goals as goal

pub returns-clause-kinds : goal.returns-clause-kinds
returns-clause-kinds c = given _ _ c.requires (c.in_ok-text.ensures {u = tt})
