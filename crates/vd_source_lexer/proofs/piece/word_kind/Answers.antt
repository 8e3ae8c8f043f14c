use Rattle.vd_source_lexer.specs.Tables.{keyword_kinds}
use Rattle.vd_source_lexer.proofs.piece.word_kind.Goals as goal

pub returns : goal.returns
unfolding keyword_kinds
returns c = c.keyword_or_name_in.ensures
