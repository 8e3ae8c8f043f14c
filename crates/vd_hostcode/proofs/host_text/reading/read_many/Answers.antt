use Rattle.std.proofs.Common.{sym, ◌∙◌, length}
use Rattle.std.proofs.lemmas.Result.{err_from_is_err_and}
use Rattle.vd_hostcode.specs.Reading.{many_at}
use Rattle.vd_hostcode.proofs.Many.{number_shorter, many_start, many_next, many_stopped, many_done}
use Rattle.vd_hostcode.proofs.host_text.reading.read_many.Goals as goal

pub numbers-init : goal.numbers-init
numbers-init c = rw c.new-numbers.ensures (many_start c.args.cursor.now)

pub returns-in_err-number : goal.returns-in_err-number
returns-in_err-number c =
    let p = err_from_is_err_and c.from_residual.result c.from_residual.ensures.1 in
    rw (p.1, p.2)
    (many_stopped c.numbers.numbers c.numbers.cursor c.read_number.new.cursor (many_at (length c.args.cursor.now) c.args.cursor.now) (sym c.stands_at.ensures ∙ c.numbers-test.true) c.in_err-number.ensures c.numbers.invariant)

pub numbers-preserved : goal.numbers-preserved
numbers-preserved c =
    rw c.in_ok-push.ensures.ok
    (many_next c.numbers.numbers c.numbers.cursor c.read_number.new.cursor c.in_ok-number.number (many_at (length c.args.cursor.now) c.args.cursor.now) (sym c.stands_at.ensures ∙ c.numbers-test.true) c.in_ok-number.ensures
    c.numbers.invariant)

pub numbers-smaller : goal.numbers-smaller
numbers-smaller c = number_shorter c.numbers.cursor c.in_ok-number.number c.read_number.new.cursor c.in_ok-number.ensures

pub returns : goal.returns
returns c = many_done c.numbers.numbers c.numbers.cursor (many_at (length c.args.cursor.now) c.args.cursor.now) (sym c.stands_at.ensures ∙ c.numbers-test.false) c.numbers.invariant
