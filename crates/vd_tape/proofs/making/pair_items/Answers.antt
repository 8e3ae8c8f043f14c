use Rattle.std.proofs.Common.{◌*◌, ◌+◌, min, max}
use Rattle.vd_tape.specs.Made.{shared_stream, part_of, pair_item, pair_parts}
use Rattle.vd_tape.proofs.Drawn.{next_of, moved, drawn, next_place}
use Rattle.vd_tape.proofs.making.pair_items.Goals as goal

pub loop-preserved : goal.loop-preserved
loop-preserved c =
    let stream = shared_stream (min c.args.me c.args.peer) (max c.args.me c.args.peer) 2 in
    record {
      items = next_of (pair_item c.args.key.now c.args.me c.args.peer) c.loop.counter c.loop.items c.push.new.self c.part_of.result c.loop.invariant.items c.in_ok-push.ensures.ok
          (drawn pair_parts (part_of c.args.me c.args.peer) c.args.key.now stream 3 c.loop.counter c.loop.generator c.draw_pair.result c.part_of.result c.loop.invariant.stands c.draw_pair.ensures.parts c.part_of.ensures);
      stands = moved c.args.key.now stream (3 * c.loop.counter) 3 (3 * (c.loop.counter + 1)) c.loop.generator c.draw_pair.new.generator c.loop.invariant.stands c.draw_pair.ensures.next (next_place 3 c.loop.counter);
    }
