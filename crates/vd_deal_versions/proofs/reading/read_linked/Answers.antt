use Rattle.std.proofs.lemmas.Result.{err_from_is_err_and}
use Rattle.vd_deal_versions.specs.Reading.{linked_at}
use Rattle.vd_deal_versions.proofs.LinkLoop.{one_fault, next_one, all_linked}
use Rattle.vd_deal_versions.proofs.reading.read_linked.Goals as goal

pub returns-in_err-one : goal.returns-in_err-one
returns-in_err-one c =
    let p = err_from_is_err_and c.from_residual.result c.from_residual.ensures.1 in
    rw (p.1, p.2) (one_fault c.in_err-one.field-0.0 c.args.me c.loop-place.linked c.args.count c.loop-place.place c.loop-place.cursor c.read_one.new.cursor
    (linked_at c.args.me 0 c.args.count c.args.cursor.now) c.loop-place-test.true (rw c.peer.ensures at c.in_err-one.ensures) c.loop-place.invariant)

pub loop-place-preserved : goal.loop-place-preserved
loop-place-preserved c =
    rw (c.in_ok-push.ensures.ok, c.in_ok-push-2.ensures.ok, c.in_ok-push-3.ensures.ok, c.in_ok-push-4.ensures.ok)
    (next_one c.args.me c.loop-place.linked c.args.count c.loop-place.place c.loop-place.cursor c.read_one.new.cursor c.in_ok-one.one
    (linked_at c.args.me 0 c.args.count c.args.cursor.now) c.loop-place-test.true (rw c.peer.ensures at c.in_ok-one.ensures) c.loop-place.invariant)

pub returns : goal.returns
returns c =
    all_linked c.args.me c.loop-place.linked c.args.count c.loop-place.place c.loop-place.cursor (linked_at c.args.me 0 c.args.count c.args.cursor.now) c.loop-place-test.false c.loop-place.invariant
