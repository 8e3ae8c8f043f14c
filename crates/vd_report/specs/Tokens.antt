-- The tokens of inputs and schedules, by cases on bytes.
use Rattle.std.specs.Prelude.{ℕ, zero, suc, ◌+◌, ◌-◌, ◌^◌, min, ◌<◌, ◌≤◌, ◌==◌, List, [], ◌∷◌, Option, Some, None, codes, take, drop, slice_index, if◌then◌else◌}
use Rattle.std.specs.List.{prefix_len, take_while}
use Rattle.std.specs.Str.{bytes_eq}
use Rattle.vd_base.specs.Lexical.{is_space, is_digit, is_letter, is_word_byte, is_keyword, number_of}
use Rattle.vd_report.specs.declared.token.TokenKind.{TokenKind}
use Rattle.vd_report.specs.declared.token.TokenKind.TheVariants as kind
use Rattle.vd_report.specs.declared.token.Token.{Token}

abbrev pub word_kind : List ℕ → TokenKind
word_kind word = if bytes_eq word (codes "all") then kind.All else (if is_keyword word then kind.Other else kind.Name)

abbrev pub number_kind : Option ℕ → TokenKind
number_kind None = kind.Other
number_kind (Some value) = kind.Number value

-- how many bytes the token at the front of a text has: a word and digits have as many as there are
abbrev pub token_len : List ℕ → ℕ
token_len text =
    if is_letter (slice_index text 0) then prefix_len is_word_byte text
    else (if is_digit (slice_index text 0) then prefix_len is_digit text else 1)

abbrev pub token_kind : List ℕ → TokenKind
token_kind text =
    if is_letter (slice_index text 0) then word_kind (take_while is_word_byte text)
    else (if is_digit (slice_index text 0) then number_kind (number_of (take_while is_digit text))
    else (if slice_index text 0 == 58 then kind.Colon else kind.Other))

-- the token that begins with this text at an offset
unfoldable pub token_of : ℕ → List ℕ → Token
token_of at text = record { kind = token_kind text; start = at; end = at + token_len text }

abbrev pub end_of : ℕ → Token
end_of at = record { kind = kind.End; start = at; end = at }

-- The tokens of the bytes at an offset and behind it, of which the first `inside` belong to a token before them. The last one is the end.
unfoldable pub tokens_from : ℕ → ℕ → List ℕ → List Token
tokens_from at inside [] = end_of at ∷ []
tokens_from at (suc inside) (b ∷ bs) = tokens_from (at + 1) inside bs
tokens_from at zero (b ∷ bs) =
    if is_space b then tokens_from (at + 1) 0 bs
    else token_of at (b ∷ bs) ∷ tokens_from (at + 1) (token_len (b ∷ bs) - 1) bs

abbrev pub tokens_at : List ℕ → ℕ → List Token
tokens_at bytes at = tokens_from at 0 (drop at bytes)

-- the tokens behind one
abbrev pub behind_kind : List ℕ → ℕ → TokenKind → List Token
behind_kind bytes end kind.End = []
behind_kind bytes end _ = tokens_at bytes end

abbrev pub behind : List ℕ → Token → List Token
behind bytes t = behind_kind bytes t.end t.kind

-- an offset as a fault tells it: 2^32 - 1 where it would be larger
abbrev pub capped : ℕ → ℕ
capped at = min at (2 ^ 32 - 1)

abbrev pub text_of : List ℕ → Token → List ℕ
text_of bytes t = take (t.end - t.start) (drop t.start bytes)

abbrev pub Advances : ℕ → ℕ → TokenKind → Type 0
Advances at end kind.End = Unit {0}
Advances at end _ = at < end

-- a token that is looked for from an offset on stands behind it and within the bytes, and has a byte unless it is the end
pub record IsToken (at : ℕ) (t : Token) (len : ℕ) : Type 0 where
  pub from : at ≤ t.start
  pub start : t.start ≤ t.end
  pub end : t.end ≤ len
  pub advances : Advances at t.end t.kind
