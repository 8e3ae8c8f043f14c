-- The tokens of a text, by cases on its bytes.
use Rattle.std.specs.Prelude.{◌≡◌, ℕ, ◌+◌, ◌-◌, ◌<◌, ◌≤◌, ◌==◌, ◌⊎◌, Bool, true, not, List, [], ◌∷◌, length, drop, take, slice_index, codes, nat_eq, map, Option, Some, None, if◌then◌else◌}
use Rattle.std.specs.List.{find, prefix_len, take_while, starts_with}
use Rattle.std.specs.Str.{bytes_eq}
use Rattle.vd_base.specs.Lexical.{is_space, is_digit, is_letter, is_word_byte, is_name, number_of}
use Rattle.vd_source_lexer.specs.Kinds.{code_of}
use Rattle.vd_source_lexer.specs.Tables.{keyword_kinds, symbol_kinds}
use Rattle.vd_source_lexer.specs.declared.token.TokenKind.{TokenKind}
use Rattle.vd_source_lexer.specs.declared.token.TokenKind.TheVariants as kind
use Rattle.vd_source_lexer.specs.declared.token.Token.{Token}
use Rattle.vd_source_lexer.specs.declared.token.LexFault.{LexFault}
use Rattle.vd_source_lexer.specs.declared.token.LexFault.TheVariants.{BadByte, Memory}
use Rattle.vd_source_lexer.specs.declared.piece.Piece.{Piece}
use Rattle.vd_source_lexer.specs.declared.piece.Piece.TheVariants.{Blank, Lexeme, Bad}

-- the kind of a word: that of the keyword, or a name
abbrev pub keyword_or_name : Option (List ℕ × TokenKind) → TokenKind
keyword_or_name None = kind.Name
keyword_or_name (Some keyword) = keyword.1

abbrev pub word_kind : List ℕ → TokenKind
word_kind word = keyword_or_name (find (λ keyword. bytes_eq keyword.0 word) keyword_kinds)

abbrev pub word_piece : List ℕ → Piece
word_piece text = Lexeme (word_kind (take_while is_word_byte text)) (prefix_len is_word_byte text) 0

-- a token, if the digits are a number
abbrev pub number_piece : ℕ → Option ℕ → Piece
number_piece len None = Bad
number_piece len (Some value) = Lexeme kind.Number len value

abbrev pub digits_piece : List ℕ → Piece
digits_piece text = number_piece (prefix_len is_digit text) (number_of (take_while is_digit text))

abbrev pub symbol_piece : Option (List ℕ × TokenKind) → Piece
symbol_piece None = Bad
symbol_piece (Some symbol) = Lexeme symbol.1 (length symbol.0) 0

abbrev pub longest_symbol : List ℕ → Piece
longest_symbol text = symbol_piece (find (λ symbol. starts_with nat_eq text symbol.0) symbol_kinds)

abbrev pub is_in_line : ℕ → Bool
is_in_line b = not (b == 10)

-- What stands at the front of a text: white space or a comment of some bytes, a token of some bytes, or no token.
unfoldable pub first_piece : List ℕ → Piece
first_piece text =
    if is_space (slice_index text 0) then Blank 1
    else if starts_with nat_eq text (codes "//") then Blank (prefix_len is_in_line text)
    else if is_letter (slice_index text 0) then word_piece text
    else if is_digit (slice_index text 0) then digits_piece text
    else longest_symbol text

abbrev pub token_at : TokenKind → ℕ → ℕ → ℕ → Token
token_at kind start len value = record { kind = kind; span = record { start = start; end = start + len }; value = value }

-- The bytes that stand at offset i and behind it have these tokens.
pub data Lexes : List ℕ → ℕ → List Token → Type 0 where
  lexes_end : {i : ℕ} → Lexes [] i (token_at kind.End i 0 0 ∷ [])
  lexes_blank : {b i n : ℕ} {bs : List ℕ} {ts : List Token} → first_piece (b ∷ bs) ≡ Blank n → Lexes (drop n (b ∷ bs)) (i + n) ts → Lexes (b ∷ bs) i ts
  lexes_token : {b i n value : ℕ} {bs : List ℕ} {k : TokenKind} {ts : List Token} → first_piece (b ∷ bs) ≡ Lexeme k n value → Lexes (drop n (b ∷ bs)) (i + n) ts → Lexes (b ∷ bs) i (token_at k i n value ∷ ts)

-- Of the bytes that stand at offset i and behind it, the one at offset k is the first outside white space, comments and tokens.
pub data FirstBad : List ℕ → ℕ → ℕ → Type 0 where
  bad_here : {b i : ℕ} {bs : List ℕ} → first_piece (b ∷ bs) ≡ Bad → FirstBad (b ∷ bs) i i
  bad_after_blank : {b i n k : ℕ} {bs : List ℕ} → first_piece (b ∷ bs) ≡ Blank n → FirstBad (drop n (b ∷ bs)) (i + n) k → FirstBad (b ∷ bs) i k
  bad_after_token : {b i n k value : ℕ} {bs : List ℕ} {t : TokenKind} → first_piece (b ∷ bs) ≡ Lexeme t n value → FirstBad (drop n (b ∷ bs)) (i + n) k → FirstBad (b ∷ bs) i k

abbrev pub BadFits : List ℕ → LexFault → Type 0
BadFits bytes (BadByte k) = FirstBad bytes 0 k
BadFits bytes Memory = Unit {0}

-- A text has one list of tokens, or one first bad byte, and never both.
pub record LexesOnce (bytes : List ℕ) : Type 0 where
  pub one_list : (ts us : List Token) → Lexes bytes 0 ts → Lexes bytes 0 us → ts ≡ us
  pub one_fault : (j k : ℕ) → FirstBad bytes 0 j → FirstBad bytes 0 k → j ≡ k
  pub apart : (ts : List Token) (k : ℕ) → Lexes bytes 0 ts → FirstBad bytes 0 k → ⊥
  pub some : ((ts : List Token) × Lexes bytes 0 ts) ⊎ ((k : ℕ) × FirstBad bytes 0 k)

abbrev pub kinds : List Token → List ℕ
kinds = map (λ t. code_of t.kind)

-- the last kind is that of the end, which is no other's
pub record EndsOnce (ks : List ℕ) : Type 0 where
  pub some : 0 < length ks
  pub end : slice_index ks (length ks - 1) ≡ code_of kind.End
  pub only : (i : ℕ) → slice_index ks i ≡ code_of kind.End → length ks ≤ i + 1

abbrev pub text_of : List ℕ → Token → List ℕ
text_of bytes t = take (t.span.end - t.span.start) (drop t.span.start bytes)

-- a token's span lies within the text, and a name or a number is spelled there
pub record IsSpelled (bytes : List ℕ) (t : Token) : Type 0 where
  pub start : t.span.start ≤ t.span.end
  pub end : t.span.end ≤ length bytes
  pub name : t.kind ≡ kind.Name → is_name (text_of bytes t) ≡ true
  pub number : t.kind ≡ kind.Number → number_of (text_of bytes t) ≡ Some t.value

-- the size of a piece, which does not reach past the end
abbrev pub IsWithin : Piece → ℕ → Type 0
IsWithin (Blank n) len = (0 < n) × (n ≤ len)
IsWithin (Lexeme k n value) len = (0 < n) × (n ≤ len)
IsWithin Bad len = Unit {0}
