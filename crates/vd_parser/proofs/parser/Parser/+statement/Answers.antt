use Rattle.std.proofs.Common.{sym, ap, ◌∙◌, refl}
use Rattle.std.proofs.lemmas.Result.{err_from_is_err_and}
use Rattle.vd_source_lexer.specs.declared.token.TokenKind.TheVariants as kind
use Rattle.vd_parser.specs.Language.{BLOCK, STMT, array_rule, assign_rule, for_rule, if_rule, let_rule, output_rule, var_rule}
use Rattle.vd_parser.specs.Syntax.{array_of, assign_of, for_of, if_of, let_of, output_of, statement_of, var_of}
use Rattle.vd_parser.specs.Levels.{begins_statement}
use Rattle.vd_parser.proofs.Steps.{as_given, collects_first, into_left, into_right, last, left_out, next, refused_first, refused_last, rule_start, start}
use Rattle.vd_parser.proofs.Meanings.{block_is, else_none, else_some, for_is, if_is, statement_array, statement_assign, statement_for, statement_if, statement_let, statement_output, statement_var}
use Rattle.vd_parser.proofs.Precedence.{more_statement, no_statement, stop_statement}
use Rattle.vd_parser.proofs.Progress.{symbol_less}
use Rattle.vd_parser.proofs.parser.Parser.+statement.Goals as goal

pub block-returns-in_err-expect : goal.block-returns-in_err-expect
block-returns-in_err-expect t c =
    let w0 = rule_start BLOCK in
    let p = err_from_is_err_and c.from_residual.result c.from_residual.ensures.1 in
    rw (p.1, p.2) (refused_first w0 c.in_err-expect.ensures.token)

pub block-returns-in_err-statements : goal.block-returns-in_err-statements
block-returns-in_err-statements t c =
    let w0 = rule_start BLOCK in
    let w1 = next w0 c.in_ok-expect.ensures.token in
    let p = err_from_is_err_and c.from_residual-in_err-statements.result c.from_residual-in_err-statements.ensures.1 in
    rw (p.1, p.2) (refused_first w1 c.in_err-statements.ensures)

pub block-returns-in_err-expect-2 : goal.block-returns-in_err-expect-2
block-returns-in_err-expect-2 t c =
    let w0 = rule_start BLOCK in
    let w1 = next w0 c.in_ok-expect.ensures.token in
    let w2 = next w1 c.in_ok-statements.ensures in
    let p = err_from_is_err_and c.from_residual-in_err-expect-2.result c.from_residual-in_err-expect-2.ensures.1 in
    rw (p.1, p.2) (refused_last w2 c.in_err-expect-2.ensures.token)

pub block-returns : goal.block-returns
block-returns t c =
    let w0 = rule_start BLOCK in
    let w1 = next w0 c.in_ok-expect.ensures.token in
    let w2 = next w1 c.in_ok-statements.ensures in
    last w2 c.in_ok-expect-2.ensures.token (block_is _ _ _ _ _ c.in_ok-statements.ensures.value)

pub statements-all-init : goal.statements-all-init
statements-all-init t c =
    rw c.new-statements.ensures (collects_first start (λ y. refl))

pub statements-returns-in_err-statement : goal.statements-returns-in_err-statement
statements-returns-in_err-statement t c =
    let p = err_from_is_err_and c.from_residual.result c.from_residual.ensures.1 in
    rw (p.1, p.2) (stop_statement _ c.all.invariant (ap begins_statement (sym c.kind.ensures) ∙ sym c.begins_statement.ensures ∙ c.all-test.true) c.in_err-statement.ensures)

pub statements-all-preserved : goal.statements-all-preserved
statements-all-preserved t c =
    rw c.in_ok-push.ensures.ok (more_statement _ c.all.invariant (ap begins_statement (sym c.kind.ensures) ∙ sym c.begins_statement.ensures ∙ c.all-test.true) c.in_ok-statement.ensures)

pub statements-all-smaller : goal.statements-all-smaller
statements-all-smaller t c =
    symbol_less c.in_ok-statement.ensures

pub statements-returns : goal.statements-returns
statements-returns t c =
    no_statement _ c.all.invariant (ap begins_statement (sym c.kind.ensures) ∙ sym c.begins_statement.ensures ∙ c.all-test.false)

pub statement-returns-then-is : goal.statement-returns-then-is
statement-returns-then-is t c =
    as_given let_rule (let_of c.args.self.now.text.now) _ (statement_of c.args.self.now.text.now) _ _ _ c.let_statement.result (into_left kind.Let (rule_start STMT) (sym c.is.ensures ∙ c.if-is.true) refl) (λ x. sym (statement_let _ x)) c.let_statement.ensures

pub statement-returns-then-is-2 : goal.statement-returns-then-is-2
statement-returns-then-is-2 t c =
    as_given var_rule (var_of c.args.self.now.text.now) _ (statement_of c.args.self.now.text.now) _ _ _ c.var_statement.result (into_left kind.Var (into_right kind.Let (rule_start STMT) (sym c.is.ensures ∙ c.if-is.false) refl refl) (sym c.is-else-is.ensures ∙ c.if-is-2.true) refl) (λ x. sym (statement_var _ x)) c.var_statement.ensures

pub statement-returns-then-is-3 : goal.statement-returns-then-is-3
statement-returns-then-is-3 t c =
    as_given array_rule (array_of c.args.self.now.text.now) _ (statement_of c.args.self.now.text.now) _ _ _ c.array_statement.result (into_left kind.Array (into_right kind.Var (into_right kind.Let (rule_start STMT) (sym c.is.ensures ∙ c.if-is.false) refl refl) (sym c.is-else-is.ensures ∙ c.if-is-2.false) refl refl) (sym c.is-else-is-2.ensures ∙ c.if-is-3.true) refl) (λ x. sym (statement_array _ x)) c.array_statement.ensures

pub statement-returns-then-is-4 : goal.statement-returns-then-is-4
statement-returns-then-is-4 t c =
    as_given assign_rule (assign_of c.args.self.now.text.now) _ (statement_of c.args.self.now.text.now) _ _ _ c.assignment.result (into_left kind.Name (into_right kind.Array (into_right kind.Var (into_right kind.Let (rule_start STMT) (sym c.is.ensures ∙ c.if-is.false) refl refl) (sym c.is-else-is.ensures ∙ c.if-is-2.false) refl refl) (sym c.is-else-is-2.ensures ∙ c.if-is-3.false) refl refl) (sym c.is-else-is-3.ensures ∙ c.if-is-4.true) refl) (λ x. sym (statement_assign _ x)) c.assignment.ensures

pub statement-returns-then-is-5 : goal.statement-returns-then-is-5
statement-returns-then-is-5 t c =
    as_given output_rule (output_of c.args.self.now.text.now) _ (statement_of c.args.self.now.text.now) _ _ _ c.output_statement.result (into_left kind.Output (into_right kind.Name (into_right kind.Array (into_right kind.Var (into_right kind.Let (rule_start STMT) (sym c.is.ensures ∙ c.if-is.false) refl refl) (sym c.is-else-is.ensures ∙ c.if-is-2.false) refl refl) (sym c.is-else-is-2.ensures ∙ c.if-is-3.false) refl refl) (sym c.is-else-is-3.ensures ∙ c.if-is-4.false) refl refl) (sym c.is-else-is-4.ensures ∙ c.if-is-5.true) refl) (λ x. sym (statement_output _ x)) c.output_statement.ensures

pub statement-returns-then-is-6 : goal.statement-returns-then-is-6
statement-returns-then-is-6 t c =
    as_given if_rule (if_of c.args.self.now.text.now) _ (statement_of c.args.self.now.text.now) _ _ _ c.if_statement.result (into_left kind.If (into_right kind.Output (into_right kind.Name (into_right kind.Array (into_right kind.Var (into_right kind.Let (rule_start STMT) (sym c.is.ensures ∙ c.if-is.false) refl refl) (sym c.is-else-is.ensures ∙ c.if-is-2.false) refl refl) (sym c.is-else-is-2.ensures ∙ c.if-is-3.false) refl refl) (sym c.is-else-is-3.ensures ∙ c.if-is-4.false) refl refl) (sym c.is-else-is-4.ensures ∙ c.if-is-5.false) refl refl) (sym c.is-else-is-5.ensures ∙ c.if-is-6.true) refl) (λ x. sym (statement_if _ x)) c.if_statement.ensures

pub statement-returns-else-is-6 : goal.statement-returns-else-is-6
statement-returns-else-is-6 t c =
    as_given for_rule (for_of c.args.self.now.text.now) _ (statement_of c.args.self.now.text.now) _ _ _ c.for_statement.result (into_right kind.If (into_right kind.Output (into_right kind.Name (into_right kind.Array (into_right kind.Var (into_right kind.Let (rule_start STMT) (sym c.is.ensures ∙ c.if-is.false) refl refl) (sym c.is-else-is.ensures ∙ c.if-is-2.false) refl refl) (sym c.is-else-is-2.ensures ∙ c.if-is-3.false) refl refl) (sym c.is-else-is-3.ensures ∙ c.if-is-4.false) refl refl) (sym c.is-else-is-4.ensures ∙ c.if-is-5.false) refl refl) (sym c.is-else-is-5.ensures ∙ c.if-is-6.false) refl refl) (λ x. sym (statement_for _ x)) c.for_statement.ensures

pub if_statement-returns-in_err-first : goal.if_statement-returns-in_err-first
if_statement-returns-in_err-first t c =
    let w0 = start in
    let p = err_from_is_err_and c.from_residual.result c.from_residual.ensures.1 in
    rw (p.1, p.2) (refused_first w0 c.in_err-first.ensures.token)

pub if_statement-returns-in_err-guard : goal.if_statement-returns-in_err-guard
if_statement-returns-in_err-guard t c =
    let w0 = start in
    let w1 = next w0 c.in_ok-first.ensures.token in
    let p = err_from_is_err_and c.from_residual-in_err-guard.result c.from_residual-in_err-guard.ensures.1 in
    rw (p.1, p.2) (refused_first w1 c.in_err-guard.ensures)

pub if_statement-returns-in_err-then_block : goal.if_statement-returns-in_err-then_block
if_statement-returns-in_err-then_block t c =
    let w0 = start in
    let w1 = next w0 c.in_ok-first.ensures.token in
    let w2 = next w1 c.in_ok-guard.ensures in
    let p = err_from_is_err_and c.from_residual-in_err-then_block.result c.from_residual-in_err-then_block.ensures.1 in
    rw (p.1, p.2) (refused_first w2 c.in_err-then_block.ensures)

pub if_statement-returns-in_err-else_block : goal.if_statement-returns-in_err-else_block
if_statement-returns-in_err-else_block t c =
    let w0 = start in
    let w1 = next w0 c.in_ok-first.ensures.token in
    let w2 = next w1 c.in_ok-guard.ensures in
    let w3 = next w2 c.in_ok-then_block.ensures in
    let p = err_from_is_err_and c.from_residual-in_err-else_block.result c.from_residual-in_err-else_block.ensures.1 in
    rw (p.1, p.2) (refused_last w3 c.in_err-else_block.ensures)

pub if_statement-returns : goal.if_statement-returns
if_statement-returns t c =
    let w0 = start in
    let w1 = next w0 c.in_ok-first.ensures.token in
    let w2 = next w1 c.in_ok-guard.ensures in
    let w3 = next w2 c.in_ok-then_block.ensures in
    last w3 c.in_ok-else_block.ensures (if_is _ _ _ _ _ _ _ _ _ (ap (λ z. z.span) c.in_ok-first.ensures.token.value) c.in_ok-guard.ensures.value c.in_ok-then_block.ensures.value c.in_ok-else_block.ensures.value)

pub else_block-returns-in_err-expect : goal.else_block-returns-in_err-expect
else_block-returns-in_err-expect t c =
    let p = err_from_is_err_and c.from_residual.result c.from_residual.ensures.1 in
    rw (p.1, p.2) (refused_first (into_left kind.Else start (sym c.is.ensures ∙ c.if-is.true) refl) c.in_err-expect.ensures.token)

pub else_block-returns-in_err-block : goal.else_block-returns-in_err-block
else_block-returns-in_err-block t c =
    let p = err_from_is_err_and c.from_residual-in_err-block.result c.from_residual-in_err-block.ensures.1 in
    rw (p.1, p.2) (refused_last (next (into_left kind.Else start (sym c.is.ensures ∙ c.if-is.true) refl) c.in_ok-expect.ensures.token) c.in_err-block.ensures)

pub else_block-returns-in_ok-block : goal.else_block-returns-in_ok-block
else_block-returns-in_ok-block t c =
    last (next (into_left kind.Else start (sym c.is.ensures ∙ c.if-is.true) refl) c.in_ok-expect.ensures.token) c.in_ok-block.ensures (else_some _ _ _ _ c.in_ok-block.ensures.value)

pub else_block-returns-else-is : goal.else_block-returns-else-is
else_block-returns-else-is t c =
    left_out kind.Else _ (sym c.is.ensures ∙ c.if-is.false) refl refl (c.new.ensures ∙ else_none _ _)

pub for_statement-returns-in_err-first : goal.for_statement-returns-in_err-first
for_statement-returns-in_err-first t c =
    let w0 = start in
    let p = err_from_is_err_and c.from_residual.result c.from_residual.ensures.1 in
    rw (p.1, p.2) (refused_first w0 c.in_err-first.ensures.token)

pub for_statement-returns-in_err-name : goal.for_statement-returns-in_err-name
for_statement-returns-in_err-name t c =
    let w0 = start in
    let w1 = next w0 c.in_ok-first.ensures.token in
    let p = err_from_is_err_and c.from_residual-in_err-name.result c.from_residual-in_err-name.ensures.1 in
    rw (p.1, p.2) (refused_first w1 c.in_err-name.ensures.tree)

pub for_statement-returns-in_err-expect : goal.for_statement-returns-in_err-expect
for_statement-returns-in_err-expect t c =
    let w0 = start in
    let w1 = next w0 c.in_ok-first.ensures.token in
    let w2 = next w1 c.in_ok-name.ensures.tree in
    let p = err_from_is_err_and c.from_residual-in_err-expect.result c.from_residual-in_err-expect.ensures.1 in
    rw (p.1, p.2) (refused_first w2 c.in_err-expect.ensures.token)

pub for_statement-returns-in_err-count : goal.for_statement-returns-in_err-count
for_statement-returns-in_err-count t c =
    let w0 = start in
    let w1 = next w0 c.in_ok-first.ensures.token in
    let w2 = next w1 c.in_ok-name.ensures.tree in
    let w3 = next w2 c.in_ok-expect.ensures.token in
    let p = err_from_is_err_and c.from_residual-in_err-count.result c.from_residual-in_err-count.ensures.1 in
    rw (p.1, p.2) (refused_first w3 c.in_err-count.ensures.token)

pub for_statement-returns-in_err-body : goal.for_statement-returns-in_err-body
for_statement-returns-in_err-body t c =
    let w0 = start in
    let w1 = next w0 c.in_ok-first.ensures.token in
    let w2 = next w1 c.in_ok-name.ensures.tree in
    let w3 = next w2 c.in_ok-expect.ensures.token in
    let w4 = next w3 c.in_ok-count.ensures.token in
    let p = err_from_is_err_and c.from_residual-in_err-body.result c.from_residual-in_err-body.ensures.1 in
    rw (p.1, p.2) (refused_last w4 c.in_err-body.ensures)

pub for_statement-returns : goal.for_statement-returns
for_statement-returns t c =
    let w0 = start in
    let w1 = next w0 c.in_ok-first.ensures.token in
    let w2 = next w1 c.in_ok-name.ensures.tree in
    let w3 = next w2 c.in_ok-expect.ensures.token in
    let w4 = next w3 c.in_ok-count.ensures.token in
    last w4 c.in_ok-body.ensures (for_is _ _ _ _ _ _ _ _ _ _ (ap (λ z. z.span) c.in_ok-first.ensures.token.value) c.in_ok-name.ensures.tree.value (ap (λ z. z.value) c.in_ok-count.ensures.token.value) c.in_ok-body.ensures.value)
