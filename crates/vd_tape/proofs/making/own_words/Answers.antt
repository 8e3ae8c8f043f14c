use Rattle.std.proofs.Common.{◌+◌, refl}
use Rattle.vd_tape.specs.Made.{keyed_word}
use Rattle.vd_tape.proofs.Drawn.{next_of, moved, word_drawn}
use Rattle.vd_tape.proofs.making.own_words.Goals as goal

pub loop-preserved : goal.loop-preserved
loop-preserved c = record {
  words = next_of (keyed_word c.args.key.now c.args.me) c.loop.counter c.loop.words c.push.new.self c.draw.result c.loop.invariant.words c.in_ok-push.ensures.ok
      (word_drawn c.args.key.now c.args.me c.loop.counter c.draw.result c.loop.generator c.loop.invariant.stands c.draw.ensures.word);
  stands = moved c.args.key.now c.args.me c.loop.counter 1 (c.loop.counter + 1) c.loop.generator c.draw.new.generator c.loop.invariant.stands c.draw.ensures.next refl;
}
