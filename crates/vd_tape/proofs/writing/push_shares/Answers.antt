use Rattle.std.proofs.Common.{◌++◌, length, ap, arith}
use Rattle.vd_tape.specs.Text.{shares_text}
use Rattle.vd_tape.proofs.SharesWritten.{one_share, no_more, at_place}
use Rattle.vd_tape.proofs.writing.push_shares.Goals as goal

pub loop-place-preserved : goal.loop-place-preserved
loop-place-preserved c =
    let deal = c.args.deal.now in
    let place = c.loop-place.place in
    let ts = ap length c.as_slice-triples.ensures in
    let bs = ap length c.as_slice-bits.ensures in
    let ps = ap length c.as_slice-pairs.ensures in
    one_share deal.me.0 place deal.triples deal.bits deal.pairs c.as_slice.result.now c.as_slice-in-loop-place.result.now c.as_slice-in-loop-place-2.result.now
    c.loop-place.text c.push_share.new.text (c.args.text.now ++ shares_text deal.me.0 0 deal.triples deal.bits deal.pairs)
    (omega (arith, ts, c.loop-place-test.true, c.min.ensures, c.min-peers.ensures))
    (omega (arith, bs, c.loop-place-test.true, c.min.ensures, c.min-peers.ensures))
    (omega (arith, ps, c.loop-place-test.true, c.min.ensures, c.min-peers.ensures))
    (at_place deal.triples c.as_slice-triples.result.now place c.as_slice.result.now c.index-triples-place.result c.as_slice-triples.ensures c.as_slice.ensures c.index-triples-place.is)
    (at_place deal.bits c.as_slice-bits.result.now place c.as_slice-in-loop-place.result.now c.index-bits-place.result c.as_slice-bits.ensures c.as_slice-in-loop-place.ensures c.index-bits-place.is)
    (at_place deal.pairs c.as_slice-pairs.result.now place c.as_slice-in-loop-place-2.result.now c.index-pairs-place.result c.as_slice-pairs.ensures c.as_slice-in-loop-place-2.ensures c.index-pairs-place.is)
    (rw c.peer.ensures at (c.in_ok-push_share.ensures {u = tt})) c.loop-place.invariant

pub returns : goal.returns
returns c =
    let deal = c.args.deal.now in
    let ts = ap length c.as_slice-triples.ensures in
    let bs = ap length c.as_slice-bits.ensures in
    let ps = ap length c.as_slice-pairs.ensures in
    no_more deal.me.0 c.loop-place.place deal.triples deal.bits deal.pairs c.loop-place.text (c.args.text.now ++ shares_text deal.me.0 0 deal.triples deal.bits deal.pairs)
    (omega (arith, ts, bs, ps, c.loop-place-test.false, c.min.ensures, c.min-peers.ensures)) c.loop-place.invariant
