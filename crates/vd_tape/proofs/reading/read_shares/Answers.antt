use Rattle.std.proofs.lemmas.Result.{err_from_is_err_and}
use Rattle.vd_tape.specs.Reading.{shares_at}
use Rattle.vd_tape.proofs.ShareLoop.{share_fault, next_share, all_shares}
use Rattle.vd_tape.proofs.reading.read_shares.Goals as goal

pub returns-in_err-share : goal.returns-in_err-share
returns-in_err-share c =
    let p = err_from_is_err_and c.from_residual.result c.from_residual.ensures.1 in
    rw (p.1, p.2) (share_fault c.in_err-share.field-0.0 c.args.me c.loop-place.shares c.args.count c.loop-place.place c.loop-place.cursor c.read_share.new.cursor
    (shares_at c.args.me 0 c.args.count c.args.cursor.now) c.loop-place-test.true (rw c.peer.ensures at c.in_err-share.ensures) c.loop-place.invariant)

pub loop-place-preserved : goal.loop-place-preserved
loop-place-preserved c =
    rw (c.in_ok-push.ensures.ok, c.in_ok-push-2.ensures.ok, c.in_ok-push-3.ensures.ok)
    (next_share c.args.me c.loop-place.shares c.args.count c.loop-place.place c.loop-place.cursor c.read_share.new.cursor c.in_ok-share.share
    (shares_at c.args.me 0 c.args.count c.args.cursor.now) c.loop-place-test.true (rw c.peer.ensures at c.in_ok-share.ensures) c.loop-place.invariant)

pub returns : goal.returns
returns c =
    all_shares c.args.me c.loop-place.shares c.args.count c.loop-place.place c.loop-place.cursor (shares_at c.args.me 0 c.args.count c.args.cursor.now) c.loop-place-test.false c.loop-place.invariant
