use Rattle.std.proofs.Common.{sym, ◌∙◌}
use Rattle.std.proofs.lemmas.Result.{err_from_is_err_and}
use Rattle.vd_hostcode.specs.Lines.{start}
use Rattle.vd_hostcode.specs.Reading.{code_at}
use Rattle.vd_hostcode.proofs.CodeSteps.{line_shorter, code_start, code_next, code_last, code_fault}
use Rattle.vd_hostcode.proofs.host_text.reading.read_code.Goals as goal

pub lines-init : goal.lines-init
lines-init c = rw (c.new-outline.ensures, c.new-code.ensures) (code_start c.args.arrays c.args.cursor.now)

pub returns-in_err-word : goal.returns-in_err-word
returns-in_err-word c =
    let p = err_from_is_err_and c.from_residual.result c.from_residual.ensures.1 in
    rw (p.1, p.2) (code_fault c.in_err-word.field-0.0 c.lines.code c.lines.outline c.lines.cursor c.read_next.new.cursor (code_at (start c.args.arrays) c.args.cursor.now) c.in_err-word.ensures c.lines.invariant)

pub returns-then-is_last : goal.returns-then-is_last
returns-then-is_last c =
    code_last c.lines.code c.lines.outline c.lines.cursor c.read_next.new.cursor c.in_ok-word.word c.in_ok-word.instruction (code_at (start c.args.arrays) c.args.cursor.now) c.in_ok-word.ensures
    (sym c.is_last.ensures ∙ c.if-is_last.true) c.lines.invariant

pub lines-preserved : goal.lines-preserved
lines-preserved c =
    rw (c.in_ok-push.ensures.ok, c.in_ok-pass.ensures)
    (code_next c.lines.code c.lines.outline c.lines.cursor c.read_next.new.cursor c.in_ok-word.word c.in_ok-word.instruction (code_at (start c.args.arrays) c.args.cursor.now) c.in_ok-word.ensures
    (sym c.is_last.ensures ∙ c.if-is_last.false) c.lines.invariant)

pub lines-smaller : goal.lines-smaller
lines-smaller c = line_shorter c.lines.outline c.lines.cursor c.read_next.new.cursor c.in_ok-word.word c.in_ok-word.instruction c.in_ok-word.ensures
