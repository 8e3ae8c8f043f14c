use Rattle.std.proofs.Common.{◌≡◌, refl, map}
use Rattle.vd_base.specs.Lexical.{keywords}
use Rattle.vd_source_lexer.specs.Tables.{keyword_kinds}
use Rattle.vd_source_lexer.proofs.lexer.keywords_are_those_of_names.Goals as goal

same_words : map (λ entry. entry.0) keyword_kinds ≡ keywords
unfolding keyword_kinds keywords
same_words = refl

pub returns : goal.returns
returns c = same_words
