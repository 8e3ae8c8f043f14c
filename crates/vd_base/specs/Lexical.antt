-- Names, numbers and white space, by cases on bytes.
use Rattle.std.specs.Prelude.{◌==◌, ℕ, ◌+◌, ◌*◌, ◌-◌, ◌^◌, Bool, false, ◌&&◌, ◌||◌, not, List, [], ◌∷◌, Option, Some, None, nat_le, nat_lt, codes, length, if◌then◌else◌}
use Rattle.std.specs.List.{fold, list_all, list_any}
use Rattle.std.specs.Str.{bytes_eq}

-- space, tab, CR, LF
abbrev pub is_space : ℕ → Bool
is_space b = b == 32 || (b == 9 || (b == 13 || b == 10))

abbrev pub is_digit : ℕ → Bool
is_digit b = nat_le 48 b && nat_le b 57

-- a letter of ASCII or `_`
abbrev pub is_letter : ℕ → Bool
is_letter b = (nat_le 97 b && nat_le b 122) || ((nat_le 65 b && nat_le b 90) || b == 95)

-- what may follow the first letter of a name
abbrev pub is_word_byte : ℕ → Bool
is_word_byte b = is_letter b || is_digit b

-- the words that are no names
unfoldable pub keywords : List (List ℕ)
keywords =
    codes "principals" ∷ codes "host" ∷ codes "fun" ∷ codes "return" ∷ codes "main" ∷ codes "let" ∷ codes "var"
    ∷ codes "if" ∷ codes "else" ∷ codes "for" ∷ codes "to" ∷ codes "output" ∷ codes "input" ∷ codes "declassify"
    ∷ codes "endorse" ∷ codes "word" ∷ codes "bool" ∷ codes "true" ∷ codes "false" ∷ codes "min" ∷ codes "max"
    ∷ codes "mux" ∷ codes "any" ∷ codes "none" ∷ codes "all" ∷ codes "array" ∷ []

abbrev pub is_keyword : List ℕ → Bool
is_keyword word = list_any (λ keyword. bytes_eq keyword word) keywords

-- a letter, then letters and digits, and no keyword
abbrev pub is_name : List ℕ → Bool
is_name [] = false
is_name (b ∷ bs) = is_letter b && list_all is_word_byte bs && not (is_keyword (b ∷ bs))

-- the number that digits write
abbrev pub decimal_value : List ℕ → ℕ
decimal_value digits = fold (λ n d. n * 10 + (d - 48)) 0 digits

-- `0`, or digits of which the first is not `0`
abbrev pub is_numeral : List ℕ → Bool
is_numeral [] = false
is_numeral (d ∷ ds) = list_all is_digit (d ∷ ds) && (length ds == 0 || not (d == 48))

-- the value of a number of at most 32 bits
abbrev pub number_of : List ℕ → Option ℕ
number_of text = if is_numeral text && nat_lt (decimal_value text) (2 ^ 32) then Some (decimal_value text) else None
