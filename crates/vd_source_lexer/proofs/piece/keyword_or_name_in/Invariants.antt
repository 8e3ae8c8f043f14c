use Rattle.std.proofs.Common.{◌≡◌, drop}
use Rattle.std.specs.List.{find}
use Rattle.std.specs.Str.{bytes_eq}
use Rattle.vd_source_lexer.specs.Tables.{entries}
use Rattle.vd_source_lexer.proofs.piece.keyword_or_name_in.Given as goal

abbrev pub invariant-loop-keyword : goal.invariant-loop-keyword
invariant-loop-keyword l = find (λ keyword. bytes_eq keyword.0 l.word) (entries (drop l.keyword-index l.keywords)) ≡ find (λ keyword. bytes_eq keyword.0 l.word) (entries l.keywords)
