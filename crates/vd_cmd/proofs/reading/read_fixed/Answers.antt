use Rattle.std.proofs.Common.{ℕ, List, arith, subst}
use Rattle.vd_cmd.specs.Commands.{Reads, fixed_form_of}
use Rattle.vd_cmd.proofs.Words.{eight_are, none_of_few, none_of_many, unformed}
use Rattle.vd_cmd.proofs.reading.read_fixed.Goals.{in_default-via-then-words-lt2, in_default-via-else-words-lt2+else-words-lt3+else-words-lt4+else-words-lt5+else-words-lt6+else-words-lt7+else-words-lt8+else-words-lt9}
use Rattle.vd_cmd.proofs.reading.read_fixed.Goals as goal

pub returns-in-len8 : goal.returns-in-len8
returns-in-len8 c =
    subst (λ (words : List (List ℕ)). Reads (fixed_form_of words) c.eight_words.result)
    (eight_are c.args.words.now c.word-item-then-words-lt9.result c.hosts-item.result c.own-item.result c.muls-item.result c.ands-item.result c.pairs-item.result c.key-item.result c.prefix-item-then-words-lt9.result (omega arith) (omega arith)
    c.word-item-then-words-lt9.is c.hosts-item.is c.own-item.is c.muls-item.is c.ands-item.is c.pairs-item.is c.key-item.is c.prefix-item-then-words-lt9.is)
    c.eight_words.ensures

pub returns-in_default : goal.returns-in_default
returns-in_default c =
    unformed _ (elim c.in_default.branch [
      | in_default-via-then-words-lt2 w ↦ none_of_few c.args.words.now (grind arith)
      | in_default-via-else-words-lt2+else-words-lt3+else-words-lt4+else-words-lt5+else-words-lt6+else-words-lt7+else-words-lt8+else-words-lt9 w ↦ none_of_many c.args.words.now (grind arith)
    ])
