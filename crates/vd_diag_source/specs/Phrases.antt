-- Parts of sentences.
use Rattle.std.specs.Prelude.{ℕ, ◌+◌, ◌-◌, ◌==◌, Bool, nat_eq, if◌then◌else◌, List, [], ◌∷◌, ◌++◌, Option, Some, None, codes, length, take, drop, map}
use Rattle.vd_source_lexer.specs.Kinds.{code_of}
use Rattle.vd_source_lexer.specs.declared.token.TokenKind.{TokenKind}
use Rattle.vd_source_lexer.specs.declared.token.TokenKind.TheVariants as kind
use Rattle.vd_source_lexer.specs.declared.token.Token.{Token}
use Rattle.vd_source_lexer.specs.Texts.{text_of_kind}
use Rattle.vd_diag.specs.Parts.{three, quoted, word_at}

abbrev pub is_kind : TokenKind → TokenKind → Bool
is_kind k l = nat_eq (code_of k) (code_of l)

-- what any token of this kind is called
abbrev pub kind_phrase : TokenKind → List ℕ
kind_phrase k =
    if is_kind k kind.End then codes "the end of the text"
    else if is_kind k kind.Name then codes "a name"
    else if is_kind k kind.Number then codes "a number"
    else quoted (text_of_kind k)

-- what this token of the text is called
abbrev pub token_phrase : List ℕ → Token → List ℕ
token_phrase bytes t =
    if is_kind t.kind kind.Name then three (codes "the name `") (word_at bytes t.span) (codes "`")
    else if is_kind t.kind kind.Number then three (codes "the number `") (word_at bytes t.span) (codes "`")
    else kind_phrase t.kind

-- what stands before the part of this place among so many
abbrev pub separator : ℕ → ℕ → List ℕ
separator place count = if place == 0 then [] else if place + 1 == count then codes " or " else codes ", "

abbrev pub kinds_from : ℕ → ℕ → List TokenKind → List ℕ
kinds_from place count [] = []
kinds_from place count (k ∷ ks) = separator place count ++ kind_phrase k ++ kinds_from (place + 1) count ks

-- `A`, `A or B`, `A, B or C`
abbrev pub kinds_phrase : List TokenKind → List ℕ
kinds_phrase ks = kinds_from 0 (length ks) ks
