use Rattle.std.proofs.lemmas.Result.{err_from_is_err_and}
use Rattle.vd_base_codec.specs.Reading.{each_at}
use Rattle.vd_base_codec.proofs.Front.{next_item, no_item, all_items}
use Rattle.vd_hostcode.specs.Reading.{number_at}
use Rattle.vd_hostcode.proofs.host_text.reading.read_each.Goals as goal

pub returns-in_err-number : goal.returns-in_err-number
returns-in_err-number c =
    let p = err_from_is_err_and c.from_residual.result c.from_residual.ensures.1 in
    rw (p.1, p.2) (no_item number_at c.loop.numbers c.args.count c.loop.counter c.loop.cursor c.read_number.new.cursor (each_at number_at c.args.count c.args.cursor.now) c.loop-test.true c.in_err-number.ensures c.loop.invariant)

pub loop-preserved : goal.loop-preserved
loop-preserved c =
    rw c.in_ok-push.ensures.ok
    (next_item number_at c.loop.numbers c.args.count c.loop.counter c.loop.cursor c.read_number.new.cursor c.in_ok-number.number (each_at number_at c.args.count c.args.cursor.now) c.loop-test.true c.in_ok-number.ensures c.loop.invariant)

pub returns : goal.returns
returns c = all_items number_at c.loop.numbers c.args.count c.loop.counter c.loop.cursor (each_at number_at c.args.count c.args.cursor.now) c.loop-test.false c.loop.invariant
