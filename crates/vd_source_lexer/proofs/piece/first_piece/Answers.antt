use Rattle.std.proofs.Common.{true, false, refl, ◌∙◌, ap}
use Rattle.vd_source_lexer.specs.declared.piece.Piece.TheVariants.{Blank}
use Rattle.vd_source_lexer.proofs.Pieces.{piece_by_tests}
use Rattle.vd_source_lexer.proofs.piece.first_piece.Goals as goal

pub returns-then-is_space : goal.returns-then-is_space
returns-then-is_space c = piece_by_tests _ true _ _ _ (record { at_space = c.if-is_space.ensures; at_comment = refl; at_letter = refl; at_digit = refl })

pub returns-then-starts_with : goal.returns-then-starts_with
returns-then-starts_with c = ap Blank c.line_len.ensures ∙ piece_by_tests _ false true _ _ (record { at_space = c.if-is_space.ensures; at_comment = c.if-starts_with.ensures.value; at_letter = refl; at_digit = refl })

pub returns-then-is_letter : goal.returns-then-is_letter
returns-then-is_letter c = c.word.ensures ∙ piece_by_tests _ false false true _ (record { at_space = c.if-is_space.ensures; at_comment = c.if-starts_with.ensures.value; at_letter = c.if-is_letter.ensures; at_digit = refl })

pub returns-then-is_digit : goal.returns-then-is_digit
returns-then-is_digit c = c.digits.ensures ∙ piece_by_tests _ false false false true (record { at_space = c.if-is_space.ensures; at_comment = c.if-starts_with.ensures.value; at_letter = c.if-is_letter.ensures; at_digit = c.if-is_digit.ensures })

pub returns-else-is_digit : goal.returns-else-is_digit
returns-else-is_digit c = c.symbol.ensures ∙ piece_by_tests _ false false false false (record { at_space = c.if-is_space.ensures; at_comment = c.if-starts_with.ensures.value; at_letter = c.if-is_letter.ensures; at_digit = c.if-is_digit.ensures })
