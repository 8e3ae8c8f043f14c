use Rattle.std.proofs.Common.{sym, ◌∙◌, refl}
use Rattle.std.proofs.lemmas.Result.{err_from_is_err_and}
use Rattle.vd_source_lexer.specs.declared.token.TokenKind.TheVariants as kind
use Rattle.vd_parser.proofs.Steps.{into_left, last, left_out, refused_last, start}
use Rattle.vd_parser.proofs.Meanings.{label_none, label_some}
use Rattle.vd_parser.proofs.parser.Parser.label_option.Goals as goal

pub returns-in_err-label : goal.returns-in_err-label
returns-in_err-label c =
    let p = err_from_is_err_and c.from_residual.result c.from_residual.ensures.1 in
    rw (p.1, p.2) (refused_last (into_left kind.OpenBrace start (sym c.is.ensures ∙ c.if-is.true) refl) c.in_err-label.ensures)

pub returns-in_ok-label : goal.returns-in_ok-label
returns-in_ok-label c =
    last (into_left kind.OpenBrace start (sym c.is.ensures ∙ c.if-is.true) refl) c.in_ok-label.ensures (label_some _ _ _ c.in_ok-label.ensures.value)

pub returns-else-is : goal.returns-else-is
returns-else-is c =
    left_out kind.OpenBrace _ (sym c.is.ensures ∙ c.if-is.false) refl refl (label_none _ _)
