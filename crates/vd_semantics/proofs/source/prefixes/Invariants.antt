use Rattle.std.proofs.Common.{◌≡◌, drop}
use Rattle.vd_semantics.specs.SourceMeaning.{prefixes_word}
use Rattle.vd_semantics.proofs.source.prefixes.Given as goal

abbrev pub invariant-loop-sign : goal.invariant-loop-sign
invariant-loop-sign l = prefixes_word (drop l.sign-index l.signs) l.x ≡ prefixes_word l.signs l.operand
