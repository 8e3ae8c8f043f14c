use Rattle.std.proofs.Common.{sym, ap, ◌∙◌, refl}
use Rattle.std.proofs.lemmas.Result.{err_from_is_err_and}
use Rattle.vd_source_lexer.specs.declared.token.TokenKind.TheVariants as kind
use Rattle.vd_parser.specs.Language.{ATOM, EXPR, SHIFT, UNARY, named_rule, other_atom_rule, word_atom_rule}
use Rattle.vd_parser.specs.Syntax.{atom_of, named_of, other_atom_of, word_atom_of}
use Rattle.vd_parser.specs.Levels.{comparison_at, direction_at, infix_at}
use Rattle.vd_parser.proofs.Steps.{as_given, collects_first, end_after, into_left, into_right, last, last_none, more_after, next, next_open, past_two, refused_first, refused_last, refused_open, rule_start, skip_known, start, stop_after}
use Rattle.vd_parser.proofs.Meanings.{arguments_empty, arguments_some, atom_false, atom_number, atom_true, atom_word, between_is, expr_alone, expr_compared, exprs_first, exprs_more, exprs_none, named_call, named_element, named_value, other_brackets, other_declassify, other_endorse, other_input, other_mux, relabelled_is, shift_is, three_is, two_is, unary_is, word_max, word_min, word_named, word_other}
use Rattle.vd_parser.proofs.Precedence.{compared, comparison_op, comparison_token, level_is, level_start, no_more, no_shift, not_compared, one_more, one_shift, stop_more, stop_shift}
use Rattle.vd_parser.proofs.parser.Parser.+expr.Goals as goal

pub expr-returns-in_err-left : goal.expr-returns-in_err-left
expr-returns-in_err-left t c =
    let p = err_from_is_err_and c.from_residual.result c.from_residual.ensures.1 in
    rw (p.1, p.2) (refused_first (rule_start EXPR) c.in_err-left.ensures)

pub expr-returns-in_err-right : goal.expr-returns-in_err-right
expr-returns-in_err-right t c =
    let w1 = next (rule_start EXPR) c.in_ok-left.ensures in
    let op = comparison_token _ _ _ _ (ap comparison_at (sym c.kind.ensures) ∙ sym c.comparison.ensures ∙ c.in-Some.is) c.advance-token.ensures in
    let w2 = next (compared w1 (ap comparison_at (sym c.kind.ensures) ∙ sym c.comparison.ensures ∙ c.in-Some.is)) op in
    let p = err_from_is_err_and c.from_residual-in_err-right.result c.from_residual-in_err-right.ensures.1 in
    rw (p.1, p.2) (refused_last w2 c.in_err-right.ensures)

pub expr-returns-in_ok-left-2 : goal.expr-returns-in_ok-left-2
expr-returns-in_ok-left-2 t c =
    let w1 = next (rule_start EXPR) c.in_ok-left.ensures in
    let op = comparison_token _ _ _ _ (ap comparison_at (sym c.kind.ensures) ∙ sym c.comparison.ensures ∙ c.in-Some.is) c.advance-token.ensures in
    let w2 = next (compared w1 (ap comparison_at (sym c.kind.ensures) ∙ sym c.comparison.ensures ∙ c.in-Some.is)) op in
    last w2 c.in_ok-right.ensures (rw (c.in_ok-left-2.ensures, c.in_ok-push.ensures.ok, c.new-segments.ensures) (expr_compared _ _ op.tree _ _ _ _ _ c.in_ok-left.ensures.value (comparison_op _ _ _ _ op.tree (ap comparison_at (sym c.kind.ensures) ∙ sym c.comparison.ensures ∙ c.in-Some.is) c.advance-token.ensures op.value) (ap (λ z. z.span) op.value) c.in_ok-right.ensures.value))

pub expr-returns-in_default : goal.expr-returns-in_default
expr-returns-in_default t c =
    last_none (not_compared (next (rule_start EXPR) c.in_ok-left.ensures) (ap comparison_at (sym c.kind.ensures) ∙ sym c.comparison.ensures ∙ c.in_default.is)) (expr_alone _ _ _ _ c.in_ok-left.ensures.value)

pub boxed-returns-in_err-expr : goal.boxed-returns-in_err-expr
boxed-returns-in_err-expr t c =
    let p = err_from_is_err_and c.from_residual.result c.from_residual.ensures.1 in
    rw (p.1, p.2) (refused_last start c.in_err-expr.ensures)

pub boxed-returns : goal.boxed-returns
boxed-returns t c =
    last start c.in_ok-expr.ensures (c.in_ok-boxed.ensures ∙ c.in_ok-expr.ensures.value)

pub chain-returns-in_err-first : goal.chain-returns-in_err-first
chain-returns-in_err-first t c =
    let p = err_from_is_err_and c.from_residual.result c.from_residual.ensures.1 in
    rw (p.1, p.2) (refused_first (level_start c.args.level) c.in_err-first.ensures)

pub chain-segments-init : goal.chain-segments-init
chain-segments-init t c =
    record { same = refl; collects = rw c.new-segments.ensures (collects_first start (λ y. refl)) }

pub chain-returns-in_err-right : goal.chain-returns-in_err-right
chain-returns-in_err-right t c =
    let w1 = next (level_start c.args.level) c.in_ok-first.ensures in
    let p = err_from_is_err_and c.from_residual-in_err-right.result c.from_residual-in_err-right.ensures.1 in
    rw (p.1, p.2) (refused_last w1 (stop_more c.args.level _ c.segments.invariant.collects (ap (infix_at c.args.level) (sym c.kind.ensures) ∙ sym c.infix.ensures ∙ c.in-Some.is) c.advance-token.ensures c.in_err-right.ensures))

pub chain-segments-preserved : goal.chain-segments-preserved
chain-segments-preserved t c =
    record { same = c.segments.invariant.same; collects = rw c.in_ok-push.ensures.ok (one_more c.args.level _ c.segments.invariant.collects (ap (infix_at c.args.level) (sym c.kind.ensures) ∙ sym c.infix.ensures ∙ c.in-Some.is) c.advance-token.ensures c.in_ok-right.ensures) }

pub chain-returns : goal.chain-returns
chain-returns t c =
    let w1 = next (level_start c.args.level) c.in_ok-first.ensures in
    let rest = no_more c.args.level _ c.segments.invariant.collects (ap (infix_at c.args.level) (sym c.kind.ensures) ∙ sym c.infix.ensures ∙ c.in_default.is) in
    last w1 rest (c.in_ok-expr.ensures ∙ level_is c.args.level _ _ _ _ _ (c.segments.invariant.same ∙ c.in_ok-first.ensures.value) rest.value)

pub shift-returns-in_err-first : goal.shift-returns-in_err-first
shift-returns-in_err-first t c =
    let p = err_from_is_err_and c.from_residual.result c.from_residual.ensures.1 in
    rw (p.1, p.2) (refused_first (rule_start SHIFT) c.in_err-first.ensures)

pub shift-segments-init : goal.shift-segments-init
shift-segments-init t c =
    record { same = refl; collects = rw c.new-segments.ensures (collects_first start (λ y. refl)) }

pub shift-returns-in_err-bits : goal.shift-returns-in_err-bits
shift-returns-in_err-bits t c =
    let w1 = next (rule_start SHIFT) c.in_ok-first.ensures in
    let p = err_from_is_err_and c.from_residual-in_err-bits.result c.from_residual-in_err-bits.ensures.1 in
    rw (p.1, p.2) (refused_last w1 (stop_shift _ c.segments.invariant.collects (ap direction_at (sym c.kind.ensures) ∙ sym c.direction.ensures ∙ c.in-Some.is) c.advance-token.ensures c.in_err-bits.ensures.token))

pub shift-segments-preserved : goal.shift-segments-preserved
shift-segments-preserved t c =
    record { same = c.segments.invariant.same; collects = rw c.in_ok-push.ensures.ok (one_shift _ c.segments.invariant.collects (ap direction_at (sym c.kind.ensures) ∙ sym c.direction.ensures ∙ c.in-Some.is) c.advance-token.ensures c.in_ok-bits.ensures.token) }

pub shift-returns : goal.shift-returns
shift-returns t c =
    let w1 = next (rule_start SHIFT) c.in_ok-first.ensures in
    let rest = no_shift _ c.segments.invariant.collects (ap direction_at (sym c.kind.ensures) ∙ sym c.direction.ensures ∙ c.in_default.is) in
    last w1 rest (c.in_ok-expr.ensures ∙ shift_is _ _ _ _ _ (c.segments.invariant.same ∙ c.in_ok-first.ensures.value) rest.value)

pub unary-returns-in_err-signs : goal.unary-returns-in_err-signs
unary-returns-in_err-signs t c =
    let w0 = rule_start UNARY in
    let p = err_from_is_err_and c.from_residual.result c.from_residual.ensures.1 in
    rw (p.1, p.2) (refused_first w0 c.in_err-signs.ensures)

pub unary-returns-in_err-atom : goal.unary-returns-in_err-atom
unary-returns-in_err-atom t c =
    let w0 = rule_start UNARY in
    let w1 = next w0 c.in_ok-signs.ensures in
    let p = err_from_is_err_and c.from_residual-in_err-atom.result c.from_residual-in_err-atom.ensures.1 in
    rw (p.1, p.2) (refused_last w1 c.in_err-atom.ensures)

pub unary-returns : goal.unary-returns
unary-returns t c =
    let w0 = rule_start UNARY in
    let w1 = next w0 c.in_ok-signs.ensures in
    last w1 c.in_ok-atom.ensures (c.in_ok-expr.ensures ∙ unary_is _ _ _ _ _ c.in_ok-atom.ensures.value c.in_ok-signs.ensures.value)

pub atom-returns-in_err-number : goal.atom-returns-in_err-number
atom-returns-in_err-number t c =
    let p = err_from_is_err_and c.from_residual.result c.from_residual.ensures.1 in
    rw (p.1, p.2) (refused_last (into_left kind.Number (rule_start ATOM) (sym c.is.ensures ∙ c.if-is.true) refl) c.in_err-number.ensures.token)

pub atom-returns-in_ok-number : goal.atom-returns-in_ok-number
atom-returns-in_ok-number t c =
    last (into_left kind.Number (rule_start ATOM) (sym c.is.ensures ∙ c.if-is.true) refl) c.in_ok-number.ensures.token (atom_number _ _ _ (ap (λ z. z.value) c.in_ok-number.ensures.token.value))

pub atom-returns-in_err-expect : goal.atom-returns-in_err-expect
atom-returns-in_err-expect t c =
    let p = err_from_is_err_and c.from_residual-in_err-expect.result c.from_residual-in_err-expect.ensures.1 in
    rw (p.1, p.2) (refused_last (into_left kind.True (into_right kind.Number (rule_start ATOM) (sym c.is.ensures ∙ c.if-is.false) refl refl) (sym c.is-else-is.ensures ∙ c.if-is-2.true) refl) c.in_err-expect.ensures.token)

pub atom-returns-in_ok-expect : goal.atom-returns-in_ok-expect
atom-returns-in_ok-expect t c =
    last (into_left kind.True (into_right kind.Number (rule_start ATOM) (sym c.is.ensures ∙ c.if-is.false) refl refl) (sym c.is-else-is.ensures ∙ c.if-is-2.true) refl) c.in_ok-expect.ensures.token (atom_true _ _)

pub atom-returns-in_err-expect-2 : goal.atom-returns-in_err-expect-2
atom-returns-in_err-expect-2 t c =
    let p = err_from_is_err_and c.from_residual-in_err-expect-2.result c.from_residual-in_err-expect-2.ensures.1 in
    rw (p.1, p.2) (refused_last (into_left kind.False (into_right kind.True (into_right kind.Number (rule_start ATOM) (sym c.is.ensures ∙ c.if-is.false) refl refl) (sym c.is-else-is.ensures ∙ c.if-is-2.false) refl refl) (sym c.is-else-is-2.ensures ∙ c.if-is-3.true) refl) c.in_err-expect-2.ensures.token)

pub atom-returns-in_ok-expect-2 : goal.atom-returns-in_ok-expect-2
atom-returns-in_ok-expect-2 t c =
    last (into_left kind.False (into_right kind.True (into_right kind.Number (rule_start ATOM) (sym c.is.ensures ∙ c.if-is.false) refl refl) (sym c.is-else-is.ensures ∙ c.if-is-2.false) refl refl) (sym c.is-else-is-2.ensures ∙ c.if-is-3.true) refl) c.in_ok-expect-2.ensures.token (atom_false _ _)

pub atom-returns-else-is-3 : goal.atom-returns-else-is-3
atom-returns-else-is-3 t c =
    as_given word_atom_rule (word_atom_of c.args.self.now.text.now) _ (atom_of c.args.self.now.text.now) _ _ _ c.word_atom.result (into_right kind.False (into_right kind.True (into_right kind.Number (rule_start ATOM) (sym c.is.ensures ∙ c.if-is.false) refl refl) (sym c.is-else-is.ensures ∙ c.if-is-2.false) refl refl) (sym c.is-else-is-2.ensures ∙ c.if-is-3.false) refl refl) (λ x. sym (atom_word _ x)) c.word_atom.ensures

pub word_atom-returns-then-is : goal.word_atom-returns-then-is
word_atom-returns-then-is t c =
    as_given named_rule (named_of c.args.self.now.text.now) _ (word_atom_of c.args.self.now.text.now) _ _ _ c.named.result (into_left kind.Name start (sym c.is.ensures ∙ c.if-is.true) refl) (λ x. sym (word_named _ x)) c.named.ensures

pub word_atom-returns-in_err-token : goal.word_atom-returns-in_err-token
word_atom-returns-in_err-token t c =
    let p = err_from_is_err_and c.from_residual.result c.from_residual.ensures.1 in
    rw (p.1, p.2) (refused_first (into_left kind.Min (into_right kind.Name start (sym c.is.ensures ∙ c.if-is.false) refl refl) (sym c.is-else-is.ensures ∙ c.if-is-2.true) refl) c.in_err-token.ensures.token)

pub word_atom-returns-in_err-left : goal.word_atom-returns-in_err-left
word_atom-returns-in_err-left t c =
    let p = err_from_is_err_and c.from_residual-in_err-left.result c.from_residual-in_err-left.ensures.1 in
    rw (p.1, p.2) (refused_last (next (into_left kind.Min (into_right kind.Name start (sym c.is.ensures ∙ c.if-is.false) refl refl) (sym c.is-else-is.ensures ∙ c.if-is-2.true) refl) c.in_ok-token.ensures.token) c.in_err-left.ensures)

pub word_atom-returns-in_ok-left : goal.word_atom-returns-in_ok-left
word_atom-returns-in_ok-left t c =
    last (next (into_left kind.Min (into_right kind.Name start (sym c.is.ensures ∙ c.if-is.false) refl refl) (sym c.is-else-is.ensures ∙ c.if-is-2.true) refl) c.in_ok-token.ensures.token) c.in_ok-left.ensures (word_min _ _ _ _ _ _ (ap (λ z. z.span) c.in_ok-token.ensures.token.value) (ap (λ z. z.0) c.in_ok-left.ensures.value) (ap (λ z. z.1) c.in_ok-left.ensures.value))

pub word_atom-returns-in_err-token-2 : goal.word_atom-returns-in_err-token-2
word_atom-returns-in_err-token-2 t c =
    let p = err_from_is_err_and c.from_residual-in_err-token-2.result c.from_residual-in_err-token-2.ensures.1 in
    rw (p.1, p.2) (refused_first (into_left kind.Max (into_right kind.Min (into_right kind.Name start (sym c.is.ensures ∙ c.if-is.false) refl refl) (sym c.is-else-is.ensures ∙ c.if-is-2.false) refl refl) (sym c.is-else-is-2.ensures ∙ c.if-is-3.true) refl) c.in_err-token-2.ensures.token)

pub word_atom-returns-in_err-left-2 : goal.word_atom-returns-in_err-left-2
word_atom-returns-in_err-left-2 t c =
    let p = err_from_is_err_and c.from_residual-in_err-left-2.result c.from_residual-in_err-left-2.ensures.1 in
    rw (p.1, p.2) (refused_last (next (into_left kind.Max (into_right kind.Min (into_right kind.Name start (sym c.is.ensures ∙ c.if-is.false) refl refl) (sym c.is-else-is.ensures ∙ c.if-is-2.false) refl refl) (sym c.is-else-is-2.ensures ∙ c.if-is-3.true) refl) c.in_ok-token-2.ensures.token) c.in_err-left-2.ensures)

pub word_atom-returns-in_ok-left-2 : goal.word_atom-returns-in_ok-left-2
word_atom-returns-in_ok-left-2 t c =
    last (next (into_left kind.Max (into_right kind.Min (into_right kind.Name start (sym c.is.ensures ∙ c.if-is.false) refl refl) (sym c.is-else-is.ensures ∙ c.if-is-2.false) refl refl) (sym c.is-else-is-2.ensures ∙ c.if-is-3.true) refl) c.in_ok-token-2.ensures.token) c.in_ok-left-2.ensures (word_max _ _ _ _ _ _ (ap (λ z. z.span) c.in_ok-token-2.ensures.token.value) (ap (λ z. z.0) c.in_ok-left-2.ensures.value) (ap (λ z. z.1) c.in_ok-left-2.ensures.value))

pub word_atom-returns-else-is-3 : goal.word_atom-returns-else-is-3
word_atom-returns-else-is-3 t c =
    as_given other_atom_rule (other_atom_of c.args.self.now.text.now) _ (word_atom_of c.args.self.now.text.now) _ _ _ c.other_atom.result (into_right kind.Max (into_right kind.Min (into_right kind.Name start (sym c.is.ensures ∙ c.if-is.false) refl refl) (sym c.is-else-is.ensures ∙ c.if-is-2.false) refl refl) (sym c.is-else-is-2.ensures ∙ c.if-is-3.false) refl refl) (λ x. sym (word_other _ x)) c.other_atom.ensures

pub other_atom-returns-in_err-token : goal.other_atom-returns-in_err-token
other_atom-returns-in_err-token t c =
    let p = err_from_is_err_and c.from_residual.result c.from_residual.ensures.1 in
    rw (p.1, p.2) (refused_first (into_left kind.Mux start (sym c.is.ensures ∙ c.if-is.true) refl) c.in_err-token.ensures.token)

pub other_atom-returns-in_err-guard : goal.other_atom-returns-in_err-guard
other_atom-returns-in_err-guard t c =
    let p = err_from_is_err_and c.from_residual-in_err-guard.result c.from_residual-in_err-guard.ensures.1 in
    rw (p.1, p.2) (refused_last (next (into_left kind.Mux start (sym c.is.ensures ∙ c.if-is.true) refl) c.in_ok-token.ensures.token) c.in_err-guard.ensures)

pub other_atom-returns-in_ok-guard : goal.other_atom-returns-in_ok-guard
other_atom-returns-in_ok-guard t c =
    last (next (into_left kind.Mux start (sym c.is.ensures ∙ c.if-is.true) refl) c.in_ok-token.ensures.token) c.in_ok-guard.ensures (other_mux _ _ _ _ _ _ _ (ap (λ z. z.span) c.in_ok-token.ensures.token.value) (ap (λ z. z.0) c.in_ok-guard.ensures.value) (ap (λ z. z.1) c.in_ok-guard.ensures.value) (ap (λ z. z.2) c.in_ok-guard.ensures.value))

pub other_atom-returns-in_err-expect : goal.other_atom-returns-in_err-expect
other_atom-returns-in_err-expect t c =
    let p = err_from_is_err_and c.from_residual-in_err-expect.result c.from_residual-in_err-expect.ensures.1 in
    rw (p.1, p.2) (refused_first (into_left kind.Input (into_right kind.Mux start (sym c.is.ensures ∙ c.if-is.false) refl refl) (sym c.is-else-is.ensures ∙ c.if-is-2.true) refl) c.in_err-expect.ensures.token)

pub other_atom-returns-in_err-host : goal.other_atom-returns-in_err-host
other_atom-returns-in_err-host t c =
    let p = err_from_is_err_and c.from_residual-in_err-host.result c.from_residual-in_err-host.ensures.1 in
    rw (p.1, p.2) (refused_last (next (into_left kind.Input (into_right kind.Mux start (sym c.is.ensures ∙ c.if-is.false) refl refl) (sym c.is-else-is.ensures ∙ c.if-is-2.true) refl) c.in_ok-expect.ensures.token) c.in_err-host.ensures)

pub other_atom-returns-in_ok-host : goal.other_atom-returns-in_ok-host
other_atom-returns-in_ok-host t c =
    last (next (into_left kind.Input (into_right kind.Mux start (sym c.is.ensures ∙ c.if-is.false) refl refl) (sym c.is-else-is.ensures ∙ c.if-is-2.true) refl) c.in_ok-expect.ensures.token) c.in_ok-host.ensures (other_input _ _ _ _ c.in_ok-host.ensures.value)

pub other_atom-returns-in_err-expect-2 : goal.other_atom-returns-in_err-expect-2
other_atom-returns-in_err-expect-2 t c =
    let p = err_from_is_err_and c.from_residual-in_err-expect-2.result c.from_residual-in_err-expect-2.ensures.1 in
    rw (p.1, p.2) (refused_first (into_left kind.Declassify (into_right kind.Input (into_right kind.Mux start (sym c.is.ensures ∙ c.if-is.false) refl refl) (sym c.is-else-is.ensures ∙ c.if-is-2.false) refl refl) (sym c.is-else-is-2.ensures ∙ c.if-is-3.true) refl) c.in_err-expect-2.ensures.token)

pub other_atom-returns-in_err-value : goal.other_atom-returns-in_err-value
other_atom-returns-in_err-value t c =
    let p = err_from_is_err_and c.from_residual-in_err-value.result c.from_residual-in_err-value.ensures.1 in
    rw (p.1, p.2) (refused_last (next (into_left kind.Declassify (into_right kind.Input (into_right kind.Mux start (sym c.is.ensures ∙ c.if-is.false) refl refl) (sym c.is-else-is.ensures ∙ c.if-is-2.false) refl refl) (sym c.is-else-is-2.ensures ∙ c.if-is-3.true) refl) c.in_ok-expect-2.ensures.token) c.in_err-value.ensures)

pub other_atom-returns-in_ok-value : goal.other_atom-returns-in_ok-value
other_atom-returns-in_ok-value t c =
    last (next (into_left kind.Declassify (into_right kind.Input (into_right kind.Mux start (sym c.is.ensures ∙ c.if-is.false) refl refl) (sym c.is-else-is.ensures ∙ c.if-is-2.false) refl refl) (sym c.is-else-is-2.ensures ∙ c.if-is-3.true) refl) c.in_ok-expect-2.ensures.token) c.in_ok-value.ensures (other_declassify _ _ _ _ _ (ap (λ z. z.0) c.in_ok-value.ensures.value) (ap (λ z. z.1) c.in_ok-value.ensures.value))

pub other_atom-returns-in_err-expect-3 : goal.other_atom-returns-in_err-expect-3
other_atom-returns-in_err-expect-3 t c =
    let p = err_from_is_err_and c.from_residual-in_err-expect-3.result c.from_residual-in_err-expect-3.ensures.1 in
    rw (p.1, p.2) (refused_first (into_left kind.Endorse (into_right kind.Declassify (into_right kind.Input (into_right kind.Mux start (sym c.is.ensures ∙ c.if-is.false) refl refl) (sym c.is-else-is.ensures ∙ c.if-is-2.false) refl refl) (sym c.is-else-is-2.ensures ∙ c.if-is-3.false) refl refl) (sym c.is-else-is-3.ensures ∙ c.if-is-4.true) refl) c.in_err-expect-3.ensures.token)

pub other_atom-returns-in_err-value-2 : goal.other_atom-returns-in_err-value-2
other_atom-returns-in_err-value-2 t c =
    let p = err_from_is_err_and c.from_residual-in_err-value-2.result c.from_residual-in_err-value-2.ensures.1 in
    rw (p.1, p.2) (refused_last (next (into_left kind.Endorse (into_right kind.Declassify (into_right kind.Input (into_right kind.Mux start (sym c.is.ensures ∙ c.if-is.false) refl refl) (sym c.is-else-is.ensures ∙ c.if-is-2.false) refl refl) (sym c.is-else-is-2.ensures ∙ c.if-is-3.false) refl refl) (sym c.is-else-is-3.ensures ∙ c.if-is-4.true) refl) c.in_ok-expect-3.ensures.token) c.in_err-value-2.ensures)

pub other_atom-returns-in_ok-value-2 : goal.other_atom-returns-in_ok-value-2
other_atom-returns-in_ok-value-2 t c =
    last (next (into_left kind.Endorse (into_right kind.Declassify (into_right kind.Input (into_right kind.Mux start (sym c.is.ensures ∙ c.if-is.false) refl refl) (sym c.is-else-is.ensures ∙ c.if-is-2.false) refl refl) (sym c.is-else-is-2.ensures ∙ c.if-is-3.false) refl refl) (sym c.is-else-is-3.ensures ∙ c.if-is-4.true) refl) c.in_ok-expect-3.ensures.token) c.in_ok-value-2.ensures (other_endorse _ _ _ _ _ (ap (λ z. z.0) c.in_ok-value-2.ensures.value) (ap (λ z. z.1) c.in_ok-value-2.ensures.value))

pub other_atom-returns-in_err-expect-4 : goal.other_atom-returns-in_err-expect-4
other_atom-returns-in_err-expect-4 t c =
    let w0 = into_right kind.Endorse (into_right kind.Declassify (into_right kind.Input (into_right kind.Mux start (sym c.is.ensures ∙ c.if-is.false) refl refl) (sym c.is-else-is.ensures ∙ c.if-is-2.false) refl refl) (sym c.is-else-is-2.ensures ∙ c.if-is-3.false) refl refl) (sym c.is-else-is-3.ensures ∙ c.if-is-4.false) refl refl in
    let p = err_from_is_err_and c.from_residual-in_err-expect-4.result c.from_residual-in_err-expect-4.ensures.1 in
    rw (p.1, p.2) (refused_first w0 c.in_err-expect-4.ensures.token)

pub other_atom-returns-in_err-value-3 : goal.other_atom-returns-in_err-value-3
other_atom-returns-in_err-value-3 t c =
    let w0 = into_right kind.Endorse (into_right kind.Declassify (into_right kind.Input (into_right kind.Mux start (sym c.is.ensures ∙ c.if-is.false) refl refl) (sym c.is-else-is.ensures ∙ c.if-is-2.false) refl refl) (sym c.is-else-is-2.ensures ∙ c.if-is-3.false) refl refl) (sym c.is-else-is-3.ensures ∙ c.if-is-4.false) refl refl in
    let w1 = next w0 c.in_ok-expect-4.ensures.token in
    let p = err_from_is_err_and c.from_residual-in_err-value-3.result c.from_residual-in_err-value-3.ensures.1 in
    rw (p.1, p.2) (refused_first w1 c.in_err-value-3.ensures)

pub other_atom-returns-in_err-expect-5 : goal.other_atom-returns-in_err-expect-5
other_atom-returns-in_err-expect-5 t c =
    let w0 = into_right kind.Endorse (into_right kind.Declassify (into_right kind.Input (into_right kind.Mux start (sym c.is.ensures ∙ c.if-is.false) refl refl) (sym c.is-else-is.ensures ∙ c.if-is-2.false) refl refl) (sym c.is-else-is-2.ensures ∙ c.if-is-3.false) refl refl) (sym c.is-else-is-3.ensures ∙ c.if-is-4.false) refl refl in
    let w1 = next w0 c.in_ok-expect-4.ensures.token in
    let w2 = next w1 c.in_ok-value-3.ensures in
    let p = err_from_is_err_and c.from_residual-in_err-expect-5.result c.from_residual-in_err-expect-5.ensures.1 in
    rw (p.1, p.2) (refused_last w2 c.in_err-expect-5.ensures.token)

pub other_atom-returns-in_ok-expect-5 : goal.other_atom-returns-in_ok-expect-5
other_atom-returns-in_ok-expect-5 t c =
    let w0 = into_right kind.Endorse (into_right kind.Declassify (into_right kind.Input (into_right kind.Mux start (sym c.is.ensures ∙ c.if-is.false) refl refl) (sym c.is-else-is.ensures ∙ c.if-is-2.false) refl refl) (sym c.is-else-is-2.ensures ∙ c.if-is-3.false) refl refl) (sym c.is-else-is-3.ensures ∙ c.if-is-4.false) refl refl in
    let w1 = next w0 c.in_ok-expect-4.ensures.token in
    let w2 = next w1 c.in_ok-value-3.ensures in
    last w2 c.in_ok-expect-5.ensures.token (c.bracketed.ensures ∙ other_brackets _ _ _ _ _ c.in_ok-value-3.ensures.value)

pub named-returns-in_err-name : goal.named-returns-in_err-name
named-returns-in_err-name t c =
    let p = err_from_is_err_and c.from_residual.result c.from_residual.ensures.1 in
    rw (p.1, p.2) (refused_first start c.in_err-name.ensures.tree)

pub named-returns-in_err-arguments : goal.named-returns-in_err-arguments
named-returns-in_err-arguments t c =
    let w1 = next start c.in_ok-name.ensures.tree in
    let p = err_from_is_err_and c.from_residual-in_err-arguments.result c.from_residual-in_err-arguments.ensures.1 in
    rw (p.1, p.2) (refused_last (into_left kind.OpenParen (into_left kind.OpenParen w1 (sym c.is.ensures ∙ c.if-is.true) refl) (sym c.is.ensures ∙ c.if-is.true) refl) c.in_err-arguments.ensures)

pub named-returns-in_ok-arguments : goal.named-returns-in_ok-arguments
named-returns-in_ok-arguments t c =
    let w1 = next start c.in_ok-name.ensures.tree in
    last (into_left kind.OpenParen (into_left kind.OpenParen w1 (sym c.is.ensures ∙ c.if-is.true) refl) (sym c.is.ensures ∙ c.if-is.true) refl) c.in_ok-arguments.ensures (named_call _ _ _ _ _ c.in_ok-name.ensures.tree.value c.in_ok-arguments.ensures.value)

pub named-returns-in_err-index : goal.named-returns-in_err-index
named-returns-in_err-index t c =
    let w1 = next start c.in_ok-name.ensures.tree in
    let p = err_from_is_err_and c.from_residual-in_err-index.result c.from_residual-in_err-index.ensures.1 in
    rw (p.1, p.2) (refused_last (into_right kind.OpenParen (into_left kind.OpenBracket w1 (sym c.is-else-is.ensures ∙ c.if-is-2.true) refl) (sym c.is.ensures ∙ c.if-is.false) refl refl) c.in_err-index.ensures)

pub named-returns-in_ok-index-2 : goal.named-returns-in_ok-index-2
named-returns-in_ok-index-2 t c =
    let w1 = next start c.in_ok-name.ensures.tree in
    last (into_right kind.OpenParen (into_left kind.OpenBracket w1 (sym c.is-else-is.ensures ∙ c.if-is-2.true) refl) (sym c.is.ensures ∙ c.if-is.false) refl refl) c.in_ok-index.ensures (named_element _ _ _ _ _ c.in_ok-name.ensures.tree.value (c.in_ok-index-2.ensures ∙ c.in_ok-index.ensures.value))

pub named-returns-else-is-2 : goal.named-returns-else-is-2
named-returns-else-is-2 t c =
    let w1 = next start c.in_ok-name.ensures.tree in
    last_none (past_two kind.OpenParen kind.OpenBracket w1 (sym c.is.ensures ∙ c.if-is.false) (sym c.is-else-is.ensures ∙ c.if-is-2.false) refl refl) (named_value _ _ _ _ c.in_ok-name.ensures.tree.value)

pub arguments-returns-in_err-expect : goal.arguments-returns-in_err-expect
arguments-returns-in_err-expect t c =
    let p = err_from_is_err_and c.from_residual.result c.from_residual.ensures.1 in
    rw (p.1, p.2) (refused_first start c.in_err-expect.ensures.token)

pub arguments-returns-in_err-expect-2 : goal.arguments-returns-in_err-expect-2
arguments-returns-in_err-expect-2 t c =
    let w1 = next start c.in_ok-expect.ensures.token in
    let p = err_from_is_err_and c.from_residual-in_err-expect-2.result c.from_residual-in_err-expect-2.ensures.1 in
    rw (p.1, p.2) (refused_last (skip_known kind.CloseParen w1 (sym c.is.ensures ∙ c.if-is.true) refl refl) c.in_err-expect-2.ensures.token)

pub arguments-returns-in_ok-expect-2 : goal.arguments-returns-in_ok-expect-2
arguments-returns-in_ok-expect-2 t c =
    let w1 = next start c.in_ok-expect.ensures.token in
    last (skip_known kind.CloseParen w1 (sym c.is.ensures ∙ c.if-is.true) refl refl) c.in_ok-expect-2.ensures.token (c.new.ensures ∙ arguments_empty _ _ _ _)

pub arguments-returns-in_err-arguments : goal.arguments-returns-in_err-arguments
arguments-returns-in_err-arguments t c =
    let w1 = next start c.in_ok-expect.ensures.token in
    let p = err_from_is_err_and c.from_residual-in_err-arguments.result c.from_residual-in_err-arguments.ensures.1 in
    rw (p.1, p.2) (refused_open kind.CloseParen w1 refl refl refl (sym c.is.ensures ∙ c.if-is.false) c.in_err-arguments.ensures)

pub arguments-returns-in_err-expect-3 : goal.arguments-returns-in_err-expect-3
arguments-returns-in_err-expect-3 t c =
    let w1 = next start c.in_ok-expect.ensures.token in
    let p = err_from_is_err_and c.from_residual-in_err-expect-3.result c.from_residual-in_err-expect-3.ensures.1 in
    rw (p.1, p.2) (refused_last (next_open kind.CloseParen w1 refl refl refl (sym c.is.ensures ∙ c.if-is.false) c.in_ok-arguments.ensures) c.in_err-expect-3.ensures.token)

pub arguments-returns-in_ok-expect-3 : goal.arguments-returns-in_ok-expect-3
arguments-returns-in_ok-expect-3 t c =
    let w1 = next start c.in_ok-expect.ensures.token in
    last (next_open kind.CloseParen w1 refl refl refl (sym c.is.ensures ∙ c.if-is.false) c.in_ok-arguments.ensures) c.in_ok-expect-3.ensures.token (arguments_some _ _ _ _ _ c.in_ok-arguments.ensures.value)

pub exprs-returns-in_err-first : goal.exprs-returns-in_err-first
exprs-returns-in_err-first t c =
    let p = err_from_is_err_and c.from_residual.result c.from_residual.ensures.1 in
    rw (p.1, p.2) (refused_first start c.in_err-first.ensures)

pub exprs-rest-init : goal.exprs-rest-init
exprs-rest-init t c =
    rw (c.in_ok-push.ensures.ok, c.new-exprs.ensures) (collects_first (next start c.in_ok-first.ensures) (exprs_first _ _ _ c.in_ok-first.ensures.value))

pub exprs-returns-in_err-expr : goal.exprs-returns-in_err-expr
exprs-returns-in_err-expr t c =
    let p = err_from_is_err_and c.from_residual-in_err-expr.result c.from_residual-in_err-expr.ensures.1 in
    rw (p.1, p.2) (stop_after kind.Comma c.rest.invariant (sym c.is.ensures ∙ c.rest-test.true) c.advance-comma.ensures c.in_err-expr.ensures)

pub exprs-rest-preserved : goal.exprs-rest-preserved
exprs-rest-preserved t c =
    rw c.in_ok-push-2.ensures.ok (more_after kind.Comma c.rest.invariant (sym c.is.ensures ∙ c.rest-test.true) c.advance-comma.ensures c.in_ok-expr.ensures (exprs_more _ _ _ c.in_ok-expr.ensures.value))

pub exprs-returns : goal.exprs-returns
exprs-returns t c =
    end_after kind.Comma c.rest.invariant (sym c.is.ensures ∙ c.rest-test.false) (exprs_none _)

pub index-returns-in_err-expect : goal.index-returns-in_err-expect
index-returns-in_err-expect t c =
    let w0 = start in
    let p = err_from_is_err_and c.from_residual.result c.from_residual.ensures.1 in
    rw (p.1, p.2) (refused_first w0 c.in_err-expect.ensures.token)

pub index-returns-in_err-index : goal.index-returns-in_err-index
index-returns-in_err-index t c =
    let w0 = start in
    let w1 = next w0 c.in_ok-expect.ensures.token in
    let p = err_from_is_err_and c.from_residual-in_err-index.result c.from_residual-in_err-index.ensures.1 in
    rw (p.1, p.2) (refused_first w1 c.in_err-index.ensures)

pub index-returns-in_err-expect-2 : goal.index-returns-in_err-expect-2
index-returns-in_err-expect-2 t c =
    let w0 = start in
    let w1 = next w0 c.in_ok-expect.ensures.token in
    let w2 = next w1 c.in_ok-index.ensures in
    let p = err_from_is_err_and c.from_residual-in_err-expect-2.result c.from_residual-in_err-expect-2.ensures.1 in
    rw (p.1, p.2) (refused_last w2 c.in_err-expect-2.ensures.token)

pub index-returns : goal.index-returns
index-returns t c =
    let w0 = start in
    let w1 = next w0 c.in_ok-expect.ensures.token in
    let w2 = next w1 c.in_ok-index.ensures in
    last w2 c.in_ok-expect-2.ensures.token (between_is _ _ _ _ _ c.in_ok-index.ensures.value)

pub two-returns-in_err-expect : goal.two-returns-in_err-expect
two-returns-in_err-expect t c =
    let w0 = start in
    let p = err_from_is_err_and c.from_residual.result c.from_residual.ensures.1 in
    rw (p.1, p.2) (refused_first w0 c.in_err-expect.ensures.token)

pub two-returns-in_err-left : goal.two-returns-in_err-left
two-returns-in_err-left t c =
    let w0 = start in
    let w1 = next w0 c.in_ok-expect.ensures.token in
    let p = err_from_is_err_and c.from_residual-in_err-left.result c.from_residual-in_err-left.ensures.1 in
    rw (p.1, p.2) (refused_first w1 c.in_err-left.ensures)

pub two-returns-in_err-expect-2 : goal.two-returns-in_err-expect-2
two-returns-in_err-expect-2 t c =
    let w0 = start in
    let w1 = next w0 c.in_ok-expect.ensures.token in
    let w2 = next w1 c.in_ok-left.ensures in
    let p = err_from_is_err_and c.from_residual-in_err-expect-2.result c.from_residual-in_err-expect-2.ensures.1 in
    rw (p.1, p.2) (refused_first w2 c.in_err-expect-2.ensures.token)

pub two-returns-in_err-right : goal.two-returns-in_err-right
two-returns-in_err-right t c =
    let w0 = start in
    let w1 = next w0 c.in_ok-expect.ensures.token in
    let w2 = next w1 c.in_ok-left.ensures in
    let w3 = next w2 c.in_ok-expect-2.ensures.token in
    let p = err_from_is_err_and c.from_residual-in_err-right.result c.from_residual-in_err-right.ensures.1 in
    rw (p.1, p.2) (refused_first w3 c.in_err-right.ensures)

pub two-returns-in_err-expect-3 : goal.two-returns-in_err-expect-3
two-returns-in_err-expect-3 t c =
    let w0 = start in
    let w1 = next w0 c.in_ok-expect.ensures.token in
    let w2 = next w1 c.in_ok-left.ensures in
    let w3 = next w2 c.in_ok-expect-2.ensures.token in
    let w4 = next w3 c.in_ok-right.ensures in
    let p = err_from_is_err_and c.from_residual-in_err-expect-3.result c.from_residual-in_err-expect-3.ensures.1 in
    rw (p.1, p.2) (refused_last w4 c.in_err-expect-3.ensures.token)

pub two-returns : goal.two-returns
two-returns t c =
    let w0 = start in
    let w1 = next w0 c.in_ok-expect.ensures.token in
    let w2 = next w1 c.in_ok-left.ensures in
    let w3 = next w2 c.in_ok-expect-2.ensures.token in
    let w4 = next w3 c.in_ok-right.ensures in
    last w4 c.in_ok-expect-3.ensures.token (two_is _ _ _ _ _ _ _ _ c.in_ok-left.ensures.value c.in_ok-right.ensures.value)

pub three-returns-in_err-expect : goal.three-returns-in_err-expect
three-returns-in_err-expect t c =
    let w0 = start in
    let p = err_from_is_err_and c.from_residual.result c.from_residual.ensures.1 in
    rw (p.1, p.2) (refused_first w0 c.in_err-expect.ensures.token)

pub three-returns-in_err-first : goal.three-returns-in_err-first
three-returns-in_err-first t c =
    let w0 = start in
    let w1 = next w0 c.in_ok-expect.ensures.token in
    let p = err_from_is_err_and c.from_residual-in_err-first.result c.from_residual-in_err-first.ensures.1 in
    rw (p.1, p.2) (refused_first w1 c.in_err-first.ensures)

pub three-returns-in_err-expect-2 : goal.three-returns-in_err-expect-2
three-returns-in_err-expect-2 t c =
    let w0 = start in
    let w1 = next w0 c.in_ok-expect.ensures.token in
    let w2 = next w1 c.in_ok-first.ensures in
    let p = err_from_is_err_and c.from_residual-in_err-expect-2.result c.from_residual-in_err-expect-2.ensures.1 in
    rw (p.1, p.2) (refused_first w2 c.in_err-expect-2.ensures.token)

pub three-returns-in_err-second : goal.three-returns-in_err-second
three-returns-in_err-second t c =
    let w0 = start in
    let w1 = next w0 c.in_ok-expect.ensures.token in
    let w2 = next w1 c.in_ok-first.ensures in
    let w3 = next w2 c.in_ok-expect-2.ensures.token in
    let p = err_from_is_err_and c.from_residual-in_err-second.result c.from_residual-in_err-second.ensures.1 in
    rw (p.1, p.2) (refused_first w3 c.in_err-second.ensures)

pub three-returns-in_err-expect-3 : goal.three-returns-in_err-expect-3
three-returns-in_err-expect-3 t c =
    let w0 = start in
    let w1 = next w0 c.in_ok-expect.ensures.token in
    let w2 = next w1 c.in_ok-first.ensures in
    let w3 = next w2 c.in_ok-expect-2.ensures.token in
    let w4 = next w3 c.in_ok-second.ensures in
    let p = err_from_is_err_and c.from_residual-in_err-expect-3.result c.from_residual-in_err-expect-3.ensures.1 in
    rw (p.1, p.2) (refused_first w4 c.in_err-expect-3.ensures.token)

pub three-returns-in_err-third : goal.three-returns-in_err-third
three-returns-in_err-third t c =
    let w0 = start in
    let w1 = next w0 c.in_ok-expect.ensures.token in
    let w2 = next w1 c.in_ok-first.ensures in
    let w3 = next w2 c.in_ok-expect-2.ensures.token in
    let w4 = next w3 c.in_ok-second.ensures in
    let w5 = next w4 c.in_ok-expect-3.ensures.token in
    let p = err_from_is_err_and c.from_residual-in_err-third.result c.from_residual-in_err-third.ensures.1 in
    rw (p.1, p.2) (refused_first w5 c.in_err-third.ensures)

pub three-returns-in_err-expect-4 : goal.three-returns-in_err-expect-4
three-returns-in_err-expect-4 t c =
    let w0 = start in
    let w1 = next w0 c.in_ok-expect.ensures.token in
    let w2 = next w1 c.in_ok-first.ensures in
    let w3 = next w2 c.in_ok-expect-2.ensures.token in
    let w4 = next w3 c.in_ok-second.ensures in
    let w5 = next w4 c.in_ok-expect-3.ensures.token in
    let w6 = next w5 c.in_ok-third.ensures in
    let p = err_from_is_err_and c.from_residual-in_err-expect-4.result c.from_residual-in_err-expect-4.ensures.1 in
    rw (p.1, p.2) (refused_last w6 c.in_err-expect-4.ensures.token)

pub three-returns : goal.three-returns
three-returns t c =
    let w0 = start in
    let w1 = next w0 c.in_ok-expect.ensures.token in
    let w2 = next w1 c.in_ok-first.ensures in
    let w3 = next w2 c.in_ok-expect-2.ensures.token in
    let w4 = next w3 c.in_ok-second.ensures in
    let w5 = next w4 c.in_ok-expect-3.ensures.token in
    let w6 = next w5 c.in_ok-third.ensures in
    last w6 c.in_ok-expect-4.ensures.token (three_is _ _ _ _ _ _ _ _ _ _ _ c.in_ok-first.ensures.value c.in_ok-second.ensures.value c.in_ok-third.ensures.value)

pub relabelled-returns-in_err-expect : goal.relabelled-returns-in_err-expect
relabelled-returns-in_err-expect t c =
    let w0 = start in
    let p = err_from_is_err_and c.from_residual.result c.from_residual.ensures.1 in
    rw (p.1, p.2) (refused_first w0 c.in_err-expect.ensures.token)

pub relabelled-returns-in_err-value : goal.relabelled-returns-in_err-value
relabelled-returns-in_err-value t c =
    let w0 = start in
    let w1 = next w0 c.in_ok-expect.ensures.token in
    let p = err_from_is_err_and c.from_residual-in_err-value.result c.from_residual-in_err-value.ensures.1 in
    rw (p.1, p.2) (refused_first w1 c.in_err-value.ensures)

pub relabelled-returns-in_err-expect-2 : goal.relabelled-returns-in_err-expect-2
relabelled-returns-in_err-expect-2 t c =
    let w0 = start in
    let w1 = next w0 c.in_ok-expect.ensures.token in
    let w2 = next w1 c.in_ok-value.ensures in
    let p = err_from_is_err_and c.from_residual-in_err-expect-2.result c.from_residual-in_err-expect-2.ensures.1 in
    rw (p.1, p.2) (refused_first w2 c.in_err-expect-2.ensures.token)

pub relabelled-returns-in_err-expect-3 : goal.relabelled-returns-in_err-expect-3
relabelled-returns-in_err-expect-3 t c =
    let w0 = start in
    let w1 = next w0 c.in_ok-expect.ensures.token in
    let w2 = next w1 c.in_ok-value.ensures in
    let w3 = next w2 c.in_ok-expect-2.ensures.token in
    let p = err_from_is_err_and c.from_residual-in_err-expect-3.result c.from_residual-in_err-expect-3.ensures.1 in
    rw (p.1, p.2) (refused_first w3 c.in_err-expect-3.ensures.token)

pub relabelled-returns-in_err-form : goal.relabelled-returns-in_err-form
relabelled-returns-in_err-form t c =
    let w0 = start in
    let w1 = next w0 c.in_ok-expect.ensures.token in
    let w2 = next w1 c.in_ok-value.ensures in
    let w3 = next w2 c.in_ok-expect-2.ensures.token in
    let w4 = next w3 c.in_ok-expect-3.ensures.token in
    let p = err_from_is_err_and c.from_residual-in_err-form.result c.from_residual-in_err-form.ensures.1 in
    rw (p.1, p.2) (refused_first w4 c.in_err-form.ensures)

pub relabelled-returns-in_err-expect-4 : goal.relabelled-returns-in_err-expect-4
relabelled-returns-in_err-expect-4 t c =
    let w0 = start in
    let w1 = next w0 c.in_ok-expect.ensures.token in
    let w2 = next w1 c.in_ok-value.ensures in
    let w3 = next w2 c.in_ok-expect-2.ensures.token in
    let w4 = next w3 c.in_ok-expect-3.ensures.token in
    let w5 = next w4 c.in_ok-form.ensures in
    let p = err_from_is_err_and c.from_residual-in_err-expect-4.result c.from_residual-in_err-expect-4.ensures.1 in
    rw (p.1, p.2) (refused_first w5 c.in_err-expect-4.ensures.token)

pub relabelled-returns-in_err-expect-5 : goal.relabelled-returns-in_err-expect-5
relabelled-returns-in_err-expect-5 t c =
    let w0 = start in
    let w1 = next w0 c.in_ok-expect.ensures.token in
    let w2 = next w1 c.in_ok-value.ensures in
    let w3 = next w2 c.in_ok-expect-2.ensures.token in
    let w4 = next w3 c.in_ok-expect-3.ensures.token in
    let w5 = next w4 c.in_ok-form.ensures in
    let w6 = next w5 c.in_ok-expect-4.ensures.token in
    let p = err_from_is_err_and c.from_residual-in_err-expect-5.result c.from_residual-in_err-expect-5.ensures.1 in
    rw (p.1, p.2) (refused_last w6 c.in_err-expect-5.ensures.token)

pub relabelled-returns : goal.relabelled-returns
relabelled-returns t c =
    let w0 = start in
    let w1 = next w0 c.in_ok-expect.ensures.token in
    let w2 = next w1 c.in_ok-value.ensures in
    let w3 = next w2 c.in_ok-expect-2.ensures.token in
    let w4 = next w3 c.in_ok-expect-3.ensures.token in
    let w5 = next w4 c.in_ok-form.ensures in
    let w6 = next w5 c.in_ok-expect-4.ensures.token in
    last w6 c.in_ok-expect-5.ensures.token (relabelled_is _ _ _ _ _ _ _ _ _ _ c.in_ok-value.ensures.value c.in_ok-form.ensures.value)
