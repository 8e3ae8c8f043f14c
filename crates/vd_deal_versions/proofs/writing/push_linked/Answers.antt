use Rattle.std.proofs.Common.{◌++◌, length, ap, arith, sym}
use Rattle.std.proofs.lemmas.Option.{get_or_from_slice_get}
use Rattle.vd_deal_versions.specs.Text.{linked_text}
use Rattle.vd_tape.proofs.Front.{at_place}
use Rattle.vd_deal_versions.proofs.LinksWritten.{one_more, no_more}
use Rattle.vd_deal_versions.proofs.writing.push_linked.Goals as goal

pub loop-place-preserved : goal.loop-place-preserved
loop-place-preserved c =
    let deal = c.args.deal.now in
    let place = c.loop-place.place in
    let ts = ap length c.as_slice-triples.ensures in
    let bs = ap length c.as_slice-bits.ensures in
    let ps = ap length c.as_slice-pairs.ensures in
    one_more deal.me.0 place c.args.links.now deal.triples deal.bits deal.pairs c.link_at.result.now c.as_slice.result.now c.as_slice-in-loop-place.result.now c.as_slice-in-loop-place-2.result.now
    c.loop-place.text c.push_one.new.text (c.args.text.now ++ linked_text deal.me.0 0 c.args.links.now deal.triples deal.bits deal.pairs)
    (omega (arith, c.loop-place-test.true, c.min.ensures, c.min-2.ensures, c.min-peers.ensures))
    (omega (arith, ts, c.loop-place-test.true, c.min.ensures, c.min-2.ensures, c.min-peers.ensures))
    (omega (arith, bs, c.loop-place-test.true, c.min.ensures, c.min-2.ensures, c.min-peers.ensures))
    (omega (arith, ps, c.loop-place-test.true, c.min.ensures, c.min-2.ensures, c.min-peers.ensures))
    (sym (get_or_from_slice_get c.args.links.now place c.link_at.result.now c.link_at.result.now c.link_at.ensures))
    (at_place deal.triples c.as_slice-triples.result.now place c.as_slice.result.now c.index-triples-place.result c.as_slice-triples.ensures c.as_slice.ensures c.index-triples-place.is)
    (at_place deal.bits c.as_slice-bits.result.now place c.as_slice-in-loop-place.result.now c.index-bits-place.result c.as_slice-bits.ensures c.as_slice-in-loop-place.ensures c.index-bits-place.is)
    (at_place deal.pairs c.as_slice-pairs.result.now place c.as_slice-in-loop-place-2.result.now c.index-pairs-place.result c.as_slice-pairs.ensures c.as_slice-in-loop-place-2.ensures c.index-pairs-place.is)
    (rw c.peer.ensures at (c.in_ok-push_one.ensures {u = tt})) c.loop-place.invariant

pub returns : goal.returns
returns c =
    let deal = c.args.deal.now in
    let ts = ap length c.as_slice-triples.ensures in
    let bs = ap length c.as_slice-bits.ensures in
    let ps = ap length c.as_slice-pairs.ensures in
    no_more deal.me.0 c.loop-place.place c.args.links.now deal.triples deal.bits deal.pairs c.loop-place.text (c.args.text.now ++ linked_text deal.me.0 0 c.args.links.now deal.triples deal.bits deal.pairs)
    (omega (arith, ts, bs, ps, c.loop-place-test.false, c.min.ensures, c.min-2.ensures, c.min-peers.ensures)) c.loop-place.invariant
