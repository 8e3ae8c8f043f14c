use Rattle.std.proofs.Common.{sym, ◌∙◌, refl}
use Rattle.std.proofs.lemmas.Result.{err_from_is_err_and}
use Rattle.vd_source_lexer.specs.declared.token.TokenKind.TheVariants as kind
use Rattle.vd_parser.specs.Language.{CONJ, FATOM, FORM}
use Rattle.vd_parser.proofs.Steps.{collects_first, end_after, into_left, into_right, last, more_after, next, refused_first, refused_last, rule_start, start, stop_after}
use Rattle.vd_parser.proofs.Meanings.{conj_is, conjs_more, conjs_none, fatom_any, fatom_form, fatom_name, fatom_none, fatoms_more, fatoms_none, form_is}
use Rattle.vd_parser.proofs.parser.Parser.+form.Goals as goal

pub form-returns-in_err-first : goal.form-returns-in_err-first
form-returns-in_err-first t c =
    let p = err_from_is_err_and c.from_residual.result c.from_residual.ensures.1 in
    rw (p.1, p.2) (refused_first (rule_start FORM) c.in_err-first.ensures)

pub form-parts-init : goal.form-parts-init
form-parts-init t c =
    record { same = refl; collects = rw c.new-rest.ensures (collects_first start (λ y. refl)) }

pub form-returns-in_err-part : goal.form-returns-in_err-part
form-returns-in_err-part t c =
    let w1 = next (rule_start FORM) c.in_ok-first.ensures in
    let p = err_from_is_err_and c.from_residual-in_err-part.result c.from_residual-in_err-part.ensures.1 in
    rw (p.1, p.2) (refused_last w1 (stop_after kind.Pipe c.parts.invariant.collects (sym c.is.ensures ∙ c.parts-test.true) c.advance-pipe.ensures c.in_err-part.ensures))

pub form-parts-preserved : goal.form-parts-preserved
form-parts-preserved t c =
    record { same = c.parts.invariant.same; collects = rw c.in_ok-push.ensures.ok (more_after kind.Pipe c.parts.invariant.collects (sym c.is.ensures ∙ c.parts-test.true) c.advance-pipe.ensures c.in_ok-part.ensures (conjs_more _ _ _ c.in_ok-part.ensures.value)) }

pub form-returns : goal.form-returns
form-returns t c =
    let w1 = next (rule_start FORM) c.in_ok-first.ensures in
    let rest = end_after kind.Pipe c.parts.invariant.collects (sym c.is.ensures ∙ c.parts-test.false) (conjs_none _) in
    last w1 rest (c.in_ok-form.ensures ∙ form_is _ _ _ _ _ (c.parts.invariant.same ∙ c.in_ok-first.ensures.value) rest.value)

pub conj-returns-in_err-first : goal.conj-returns-in_err-first
conj-returns-in_err-first t c =
    let p = err_from_is_err_and c.from_residual.result c.from_residual.ensures.1 in
    rw (p.1, p.2) (refused_first (rule_start CONJ) c.in_err-first.ensures)

pub conj-parts-init : goal.conj-parts-init
conj-parts-init t c =
    record { same = refl; collects = rw c.new-rest.ensures (collects_first start (λ y. refl)) }

pub conj-returns-in_err-part : goal.conj-returns-in_err-part
conj-returns-in_err-part t c =
    let w1 = next (rule_start CONJ) c.in_ok-first.ensures in
    let p = err_from_is_err_and c.from_residual-in_err-part.result c.from_residual-in_err-part.ensures.1 in
    rw (p.1, p.2) (refused_last w1 (stop_after kind.Ampersand c.parts.invariant.collects (sym c.is.ensures ∙ c.parts-test.true) c.advance-ampersand.ensures c.in_err-part.ensures))

pub conj-parts-preserved : goal.conj-parts-preserved
conj-parts-preserved t c =
    record { same = c.parts.invariant.same; collects = rw c.in_ok-push.ensures.ok (more_after kind.Ampersand c.parts.invariant.collects (sym c.is.ensures ∙ c.parts-test.true) c.advance-ampersand.ensures c.in_ok-part.ensures (fatoms_more _ _ _ c.in_ok-part.ensures.value)) }

pub conj-returns : goal.conj-returns
conj-returns t c =
    let w1 = next (rule_start CONJ) c.in_ok-first.ensures in
    let rest = end_after kind.Ampersand c.parts.invariant.collects (sym c.is.ensures ∙ c.parts-test.false) (fatoms_none _) in
    last w1 rest (c.in_ok-form.ensures ∙ conj_is _ _ _ _ _ (c.parts.invariant.same ∙ c.in_ok-first.ensures.value) rest.value)

pub fatom-returns-in_err-expect : goal.fatom-returns-in_err-expect
fatom-returns-in_err-expect t c =
    let p = err_from_is_err_and c.from_residual.result c.from_residual.ensures.1 in
    rw (p.1, p.2) (refused_last (into_left kind.Any (rule_start FATOM) (sym c.is.ensures ∙ c.if-is.true) refl) c.in_err-expect.ensures.token)

pub fatom-returns-in_ok-expect : goal.fatom-returns-in_ok-expect
fatom-returns-in_ok-expect t c =
    last (into_left kind.Any (rule_start FATOM) (sym c.is.ensures ∙ c.if-is.true) refl) c.in_ok-expect.ensures.token (fatom_any _ _)

pub fatom-returns-in_err-expect-2 : goal.fatom-returns-in_err-expect-2
fatom-returns-in_err-expect-2 t c =
    let p = err_from_is_err_and c.from_residual-in_err-expect-2.result c.from_residual-in_err-expect-2.ensures.1 in
    rw (p.1, p.2) (refused_last (into_left kind.Nothing (into_right kind.Any (rule_start FATOM) (sym c.is.ensures ∙ c.if-is.false) refl refl) (sym c.is-else-is.ensures ∙ c.if-is-2.true) refl) c.in_err-expect-2.ensures.token)

pub fatom-returns-in_ok-expect-2 : goal.fatom-returns-in_ok-expect-2
fatom-returns-in_ok-expect-2 t c =
    last (into_left kind.Nothing (into_right kind.Any (rule_start FATOM) (sym c.is.ensures ∙ c.if-is.false) refl refl) (sym c.is-else-is.ensures ∙ c.if-is-2.true) refl) c.in_ok-expect-2.ensures.token (fatom_none _ _)

pub fatom-returns-in_err-name : goal.fatom-returns-in_err-name
fatom-returns-in_err-name t c =
    let p = err_from_is_err_and c.from_residual-in_err-name.result c.from_residual-in_err-name.ensures.1 in
    rw (p.1, p.2) (refused_last (into_left kind.Name (into_right kind.Nothing (into_right kind.Any (rule_start FATOM) (sym c.is.ensures ∙ c.if-is.false) refl refl) (sym c.is-else-is.ensures ∙ c.if-is-2.false) refl refl) (sym c.is-else-is-2.ensures ∙ c.if-is-3.true) refl) c.in_err-name.ensures.tree)

pub fatom-returns-in_ok-name : goal.fatom-returns-in_ok-name
fatom-returns-in_ok-name t c =
    last (into_left kind.Name (into_right kind.Nothing (into_right kind.Any (rule_start FATOM) (sym c.is.ensures ∙ c.if-is.false) refl refl) (sym c.is-else-is.ensures ∙ c.if-is-2.false) refl refl) (sym c.is-else-is-2.ensures ∙ c.if-is-3.true) refl) c.in_ok-name.ensures.tree (fatom_name _ _ _ c.in_ok-name.ensures.tree.value)

pub fatom-returns-in_err-expect-3 : goal.fatom-returns-in_err-expect-3
fatom-returns-in_err-expect-3 t c =
    let w0 = into_right kind.Name (into_right kind.Nothing (into_right kind.Any (rule_start FATOM) (sym c.is.ensures ∙ c.if-is.false) refl refl) (sym c.is-else-is.ensures ∙ c.if-is-2.false) refl refl) (sym c.is-else-is-2.ensures ∙ c.if-is-3.false) refl refl in
    let p = err_from_is_err_and c.from_residual-in_err-expect-3.result c.from_residual-in_err-expect-3.ensures.1 in
    rw (p.1, p.2) (refused_first w0 c.in_err-expect-3.ensures.token)

pub fatom-returns-in_err-form : goal.fatom-returns-in_err-form
fatom-returns-in_err-form t c =
    let w0 = into_right kind.Name (into_right kind.Nothing (into_right kind.Any (rule_start FATOM) (sym c.is.ensures ∙ c.if-is.false) refl refl) (sym c.is-else-is.ensures ∙ c.if-is-2.false) refl refl) (sym c.is-else-is-2.ensures ∙ c.if-is-3.false) refl refl in
    let w1 = next w0 c.in_ok-expect-3.ensures.token in
    let p = err_from_is_err_and c.from_residual-in_err-form.result c.from_residual-in_err-form.ensures.1 in
    rw (p.1, p.2) (refused_first w1 c.in_err-form.ensures)

pub fatom-returns-in_err-expect-4 : goal.fatom-returns-in_err-expect-4
fatom-returns-in_err-expect-4 t c =
    let w0 = into_right kind.Name (into_right kind.Nothing (into_right kind.Any (rule_start FATOM) (sym c.is.ensures ∙ c.if-is.false) refl refl) (sym c.is-else-is.ensures ∙ c.if-is-2.false) refl refl) (sym c.is-else-is-2.ensures ∙ c.if-is-3.false) refl refl in
    let w1 = next w0 c.in_ok-expect-3.ensures.token in
    let w2 = next w1 c.in_ok-form.ensures in
    let p = err_from_is_err_and c.from_residual-in_err-expect-4.result c.from_residual-in_err-expect-4.ensures.1 in
    rw (p.1, p.2) (refused_last w2 c.in_err-expect-4.ensures.token)

pub fatom-returns-in_ok-expect-4 : goal.fatom-returns-in_ok-expect-4
fatom-returns-in_ok-expect-4 t c =
    let w0 = into_right kind.Name (into_right kind.Nothing (into_right kind.Any (rule_start FATOM) (sym c.is.ensures ∙ c.if-is.false) refl refl) (sym c.is-else-is.ensures ∙ c.if-is-2.false) refl refl) (sym c.is-else-is-2.ensures ∙ c.if-is-3.false) refl refl in
    let w1 = next w0 c.in_ok-expect-3.ensures.token in
    let w2 = next w1 c.in_ok-form.ensures in
    last w2 c.in_ok-expect-4.ensures.token (fatom_form _ _ _ _ _ c.in_ok-form.ensures.value)
