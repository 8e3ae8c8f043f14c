use Rattle.std.proofs.Common.{sym, ◌∙◌, refl}
use Rattle.std.proofs.lemmas.Result.{err_from_is_err_and}
use Rattle.vd_source_lexer.specs.declared.token.TokenKind.TheVariants as kind
use Rattle.vd_parser.proofs.Steps.{into_left, last, left_out, refused_last, start}
use Rattle.vd_parser.proofs.Meanings.{index_none, index_some}
use Rattle.vd_parser.proofs.parser.Parser.index_option.Goals as goal

pub returns-in_err-index : goal.returns-in_err-index
returns-in_err-index c =
    let p = err_from_is_err_and c.from_residual.result c.from_residual.ensures.1 in
    rw (p.1, p.2) (refused_last (into_left kind.OpenBracket start (sym c.is.ensures ∙ c.if-is.true) refl) c.in_err-index.ensures)

pub returns-in_ok-index : goal.returns-in_ok-index
returns-in_ok-index c =
    last (into_left kind.OpenBracket start (sym c.is.ensures ∙ c.if-is.true) refl) c.in_ok-index.ensures (index_some _ _ _ c.in_ok-index.ensures.value)

pub returns-else-is : goal.returns-else-is
returns-else-is c =
    left_out kind.OpenBracket _ (sym c.is.ensures ∙ c.if-is.false) refl refl (index_none _ _)
