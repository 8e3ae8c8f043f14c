use Rattle.std.proofs.Common.{◌≡◌}
use Rattle.vd_tape.specs.Made.{first_of, keyed_word}
use Rattle.vd_tape.specs.Generator.{IsAt}
use Rattle.vd_tape.proofs.making.own_words.Given as goal

abbrev pub invariant-loop : goal.invariant-loop
invariant-loop l = record { words : l.words ≡ first_of l.counter (keyed_word l.key l.me); stands : IsAt l.generator l.key l.me l.counter }
