-- Sentences on faults of a source's text.
use Rattle.std.specs.Prelude.{ℕ, Bool, if◌then◌else◌, List, codes, decimal}
use Rattle.vd_base.specs.Lexical.{is_digit}
use Rattle.vd_source_lexer.specs.declared.token.TokenKind.{TokenKind}
use Rattle.vd_source_lexer.specs.declared.token.Token.{Token}
use Rattle.vd_diag_source.specs.Phrases.{token_phrase, kinds_phrase}
use Rattle.vd_diag.specs.Parts.{three}

-- of a token, and the kinds that can stand there
abbrev pub unexpected_sentence : List ℕ → Token → List TokenKind → List ℕ
unexpected_sentence bytes t kinds = three (three (codes "found ") (token_phrase bytes t) (codes ", where only ")) (kinds_phrase kinds) (codes " can stand")

-- the same where the kinds are not known
abbrev pub refused_sentence : List ℕ → Token → List ℕ
refused_sentence bytes t = three (codes "found ") (token_phrase bytes t) (codes ", which cannot stand here")

-- of the byte itself
abbrev pub bad_byte_sentence : ℕ → List ℕ
bad_byte_sentence b =
    if is_digit b then codes "a number is `0`, or begins with another digit, and is at most 4294967295"
    else codes "nothing of a source begins with this byte"

unfoldable pub nesting_sentence : List ℕ
nesting_sentence = codes "this bracket would be the 65th that is open at once, and at most 64 may be"

abbrev pub long_sentence : ℕ → List ℕ
long_sentence len = three (codes "the file has ") (decimal len) (codes " bytes, and a source has at most 65536")
