use Rattle.vd_source_lexer.specs.Tables.{symbol_kinds}
use Rattle.vd_source_lexer.proofs.piece.symbol.Goals as goal

pub returns : goal.returns
unfolding symbol_kinds
returns c = c.symbol_in.ensures
