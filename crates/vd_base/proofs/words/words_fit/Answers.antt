use Rattle.std.proofs.Common.{arith}
use Rattle.vd_base.proofs.WordLists.{all_words, each_word}
use Rattle.vd_base.proofs.words.words_fit.Goals as goal

pub returns-clause-each : goal.returns-clause-each
returns-clause-each c = all_words c.args.words.now (λ place less. c.loop-word.invariant place (omega (arith, less)))

pub returns-clause-at : goal.returns-clause-at
returns-clause-at c = each_word c.args.words.now (λ place less. c.loop-word.invariant place (omega (arith, less)))
