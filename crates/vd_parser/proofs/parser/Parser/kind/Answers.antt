use Rattle.std.proofs.Common.{sym, ◌∙◌, refl}
use Rattle.std.proofs.lemmas.Result.{err_from_is_err_and}
use Rattle.vd_source_lexer.specs.declared.token.TokenKind.TheVariants as kind
use Rattle.vd_parser.specs.Language.{KIND}
use Rattle.vd_parser.proofs.Steps.{into_left, into_right, last, refused_last, rule_start}
use Rattle.vd_parser.proofs.parser.Parser.kind.Goals as goal

pub returns-in_err-expect : goal.returns-in_err-expect
returns-in_err-expect c =
    let p = err_from_is_err_and c.from_residual.result c.from_residual.ensures.1 in
    rw (p.1, p.2) (refused_last (into_left kind.Word (rule_start KIND) (sym c.is.ensures ∙ c.if-is.true) refl) c.in_err-expect.ensures.token)

pub returns-in_ok-expect : goal.returns-in_ok-expect
returns-in_ok-expect c =
    last (into_left kind.Word (rule_start KIND) (sym c.is.ensures ∙ c.if-is.true) refl) c.in_ok-expect.ensures.token refl

pub returns-in_err-expect-2 : goal.returns-in_err-expect-2
returns-in_err-expect-2 c =
    let p = err_from_is_err_and c.from_residual-in_err-expect-2.result c.from_residual-in_err-expect-2.ensures.1 in
    rw (p.1, p.2) (refused_last (into_right kind.Word (rule_start KIND) (sym c.is.ensures ∙ c.if-is.false) refl refl) c.in_err-expect-2.ensures.token)

pub returns-in_ok-expect-2 : goal.returns-in_ok-expect-2
returns-in_ok-expect-2 c =
    last (into_right kind.Word (rule_start KIND) (sym c.is.ensures ∙ c.if-is.false) refl refl) c.in_ok-expect-2.ensures.token refl
