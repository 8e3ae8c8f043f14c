-- What is wrong with the token that cannot stand where it stands in an inputs file.
use Rattle.std.specs.Prelude.{ℕ, List, [], ◌∷◌, not, is_some, take, drop, codes, if◌then◌else◌}
use Rattle.std.specs.List.{take_while}
use Rattle.std.specs.Str.{bytes_eq}
use Rattle.vd_base.specs.Lexical.{is_digit, is_letter, is_numeral, is_word_byte, number_of}
use Rattle.vd_diag.specs.Parts.{in_table}

-- with these bytes some editors begin a file
abbrev pub byte_order_mark : List ℕ
byte_order_mark = 239 ∷ 187 ∷ 191 ∷ []

-- the token at the front of a text that begins with this word: the word, or a byte-order mark, or one byte
abbrev pub token_of : List ℕ → List ℕ → List ℕ
token_of [] text = if bytes_eq (take 3 text) byte_order_mark then take 3 text else take 1 text
token_of (b ∷ bs) text = b ∷ bs

-- what stands at an offset; nothing at the end
abbrev pub token_at : List ℕ → ℕ → List ℕ
token_at bytes offset = token_of (take_while is_word_byte (drop offset bytes)) (drop offset bytes)

-- of digits
abbrev pub digits_sentence : List ℕ → List ℕ
digits_sentence digits =
    if not (is_numeral digits) then codes "a number has no zeros in front"
    else if is_some (number_of digits) then codes "no number can stand here: numbers stand behind the name of a host and a colon, and a host has at most 65536"
    else codes "a number is at most 4294967295"

-- of what is no word
unfoldable pub marks_table : List (List ℕ × List ℕ)
marks_table =
    ([], codes "the file ends where a colon is wanted")
    ∷ (codes ".", codes "a number has no fraction")
    ∷ (codes "-", codes "a number has no sign")
    ∷ (codes "+", codes "a number has no sign")
    ∷ (codes ",", codes "blanks or ends of lines part numbers, and no commas")
    ∷ (codes ":", codes "a colon stands behind the name of a host alone")
    ∷ (byte_order_mark, codes "the file begins with a byte-order mark, which an inputs file may not have")
    ∷ []

unfoldable pub other_mark : List ℕ
other_mark = codes "neither a number nor the name of a host begins so"

abbrev pub inputs_sentence : List ℕ → List ℕ
inputs_sentence [] = in_table marks_table [] other_mark
inputs_sentence (b ∷ bs) =
    if is_digit b then digits_sentence (take_while is_digit (b ∷ bs))
    else if is_letter b then codes "this word cannot stand here: each host has one section at most, which begins with its name and a colon"
    else in_table marks_table (b ∷ bs) other_mark
