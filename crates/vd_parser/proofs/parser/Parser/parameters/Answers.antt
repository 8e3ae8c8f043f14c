use Rattle.std.proofs.Common.{sym, ◌∙◌, refl}
use Rattle.std.proofs.lemmas.Result.{err_from_is_err_and}
use Rattle.vd_source_lexer.specs.declared.token.TokenKind.TheVariants as kind
use Rattle.vd_parser.proofs.Steps.{last, next, next_open, refused_first, refused_last, refused_open, skip_known, start}
use Rattle.vd_parser.proofs.Meanings.{parameters_empty, parameters_some}
use Rattle.vd_parser.proofs.parser.Parser.parameters.Goals as goal

pub returns-in_err-expect : goal.returns-in_err-expect
returns-in_err-expect c =
    let p = err_from_is_err_and c.from_residual.result c.from_residual.ensures.1 in
    rw (p.1, p.2) (refused_first start c.in_err-expect.ensures.token)

pub returns-in_err-expect-2 : goal.returns-in_err-expect-2
returns-in_err-expect-2 c =
    let w1 = next start c.in_ok-expect.ensures.token in
    let p = err_from_is_err_and c.from_residual-in_err-expect-2.result c.from_residual-in_err-expect-2.ensures.1 in
    rw (p.1, p.2) (refused_last (skip_known kind.CloseParen w1 (sym c.is.ensures ∙ c.if-is.true) refl refl) c.in_err-expect-2.ensures.token)

pub returns-in_ok-expect-2 : goal.returns-in_ok-expect-2
returns-in_ok-expect-2 c =
    let w1 = next start c.in_ok-expect.ensures.token in
    last (skip_known kind.CloseParen w1 (sym c.is.ensures ∙ c.if-is.true) refl refl) c.in_ok-expect-2.ensures.token (c.new.ensures ∙ parameters_empty _ _ _ _)

pub returns-in_err-parameters : goal.returns-in_err-parameters
returns-in_err-parameters c =
    let w1 = next start c.in_ok-expect.ensures.token in
    let p = err_from_is_err_and c.from_residual-in_err-parameters.result c.from_residual-in_err-parameters.ensures.1 in
    rw (p.1, p.2) (refused_open kind.CloseParen w1 refl refl refl (sym c.is.ensures ∙ c.if-is.false) c.in_err-parameters.ensures)

pub returns-in_err-expect-3 : goal.returns-in_err-expect-3
returns-in_err-expect-3 c =
    let w1 = next start c.in_ok-expect.ensures.token in
    let p = err_from_is_err_and c.from_residual-in_err-expect-3.result c.from_residual-in_err-expect-3.ensures.1 in
    rw (p.1, p.2) (refused_last (next_open kind.CloseParen w1 refl refl refl (sym c.is.ensures ∙ c.if-is.false) c.in_ok-parameters.ensures) c.in_err-expect-3.ensures.token)

pub returns-in_ok-expect-3 : goal.returns-in_ok-expect-3
returns-in_ok-expect-3 c =
    let w1 = next start c.in_ok-expect.ensures.token in
    last (next_open kind.CloseParen w1 refl refl refl (sym c.is.ensures ∙ c.if-is.false) c.in_ok-parameters.ensures) c.in_ok-expect-3.ensures.token (parameters_some _ _ _ _ _ c.in_ok-parameters.ensures.value)
