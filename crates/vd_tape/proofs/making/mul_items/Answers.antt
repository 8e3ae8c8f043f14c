use Rattle.std.proofs.Common.{◌*◌, ◌+◌, min, max}
use Rattle.vd_tape.specs.Made.{shared_stream, part_of, mul_item, mul_parts}
use Rattle.vd_tape.proofs.Drawn.{next_of, moved, drawn, next_place}
use Rattle.vd_tape.proofs.making.mul_items.Goals as goal

pub loop-preserved : goal.loop-preserved
loop-preserved c =
    let stream = shared_stream (min c.args.me c.args.peer) (max c.args.me c.args.peer) 0 in
    record {
      items = next_of (mul_item c.args.key.now c.args.me c.args.peer) c.loop.counter c.loop.items c.push.new.self c.part_of.result c.loop.invariant.items c.in_ok-push.ensures.ok
          (drawn mul_parts (part_of c.args.me c.args.peer) c.args.key.now stream 5 c.loop.counter c.loop.generator c.draw_mul.result c.part_of.result c.loop.invariant.stands c.draw_mul.ensures.parts c.part_of.ensures);
      stands = moved c.args.key.now stream (5 * c.loop.counter) 5 (5 * (c.loop.counter + 1)) c.loop.generator c.draw_mul.new.generator c.loop.invariant.stands c.draw_mul.ensures.next (next_place 5 c.loop.counter);
    }
