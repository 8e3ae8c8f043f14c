use Rattle.vd_excuse_runs.proofs.Puts.{each_word_put}
use Rattle.vd_excuse_runs.proofs.registers.write_each.Goals as goal

pub returns-else-i-words : goal.returns-else-i-words
returns-else-i-words c = each_word_put c.loop-i.registers c.args.registers.now c.args.into.now c.args.words.now c.loop-i.i c.if-i-words.false c.loop-i.invariant
