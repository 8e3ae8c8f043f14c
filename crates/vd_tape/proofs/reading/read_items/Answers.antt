use Rattle.std.proofs.lemmas.Result.{err_from_is_err_and}
use Rattle.vd_base_codec.specs.Reading.{each_at}
use Rattle.vd_base_codec.proofs.Front.{next_item, no_item, all_items}
use Rattle.vd_tape.proofs.reading.read_items.Goals as goal

pub returns-in_err-item : goal.returns-in_err-item
returns-in_err-item g c =
    let p = err_from_is_err_and c.from_residual.result c.from_residual.ensures.1 in
    rw (p.1, p.2) (no_item g.T.Item.reading c.loop.items c.args.count c.loop.counter c.loop.cursor c.read.new.cursor (each_at g.T.Item.reading c.args.count c.args.cursor.now) c.loop-test.true c.in_err-item.ensures c.loop.invariant)

pub loop-preserved : goal.loop-preserved
loop-preserved g c =
    rw c.in_ok-push.ensures.ok
    (next_item g.T.Item.reading c.loop.items c.args.count c.loop.counter c.loop.cursor c.read.new.cursor c.in_ok-item.item (each_at g.T.Item.reading c.args.count c.args.cursor.now) c.loop-test.true c.in_ok-item.ensures c.loop.invariant)

pub returns : goal.returns
returns g c = all_items g.T.Item.reading c.loop.items c.args.count c.loop.counter c.loop.cursor (each_at g.T.Item.reading c.args.count c.args.cursor.now) c.loop-test.false c.loop.invariant
