-- Which word of a command line is wrong, by the form of its command.
use Rattle.std.specs.Prelude.{ℕ, ◌-◌, Bool, not, ◌||◌, if◌then◌else◌, nat_eq, List, [], ◌∷◌, codes, decimal, length}
use Rattle.vd_base.specs.Lexical.{is_numeral}
use Rattle.vd_diag.specs.Parts.{in_table, three}

-- What stands behind a command, a sign for each word: `f` is any word and `n` a number; `F` and `N` may be left out, and behind `*` stand any.
unfoldable pub patterns : List (List ℕ × List ℕ)
patterns =
    (codes "clear", codes "ff")
    ∷ (codes "labels", codes "f")
    ∷ (codes "choose", codes "fN")
    ∷ (codes "draw", codes "fN")
    ∷ (codes "reveals", codes "fFN")
    ∷ (codes "certify", codes "ff")
    ∷ (codes "compile", codes "ffFN")
    ∷ (codes "needs", codes "fFN")
    ∷ (codes "rounds", codes "fN")
    ∷ (codes "column", codes "fff*")
    ∷ (codes "deal", codes "nnnnnff")
    ∷ (codes "replay", codes "ffffFN")
    ∷ (codes "check", codes "fff")
    ∷ (codes "host", codes "fff*")
    ∷ (codes "host-within", codes "nfff*")
    ∷ (codes "report", codes "fffF")
    ∷ (codes "run", codes "ffffn")
    ∷ (codes "excuse", codes "ffffffN")
    ∷ (codes "depends", codes "ff")
    ∷ (codes "influences", codes "ff")
    ∷ (codes "gen", codes "n")
    ∷ (codes "trial", codes "n")
    ∷ []

-- of what is no command
unfoldable pub no_pattern : List ℕ
no_pattern = codes "?"

abbrev pub pattern_of : List ℕ → List ℕ
pattern_of word = in_table patterns word no_pattern

-- ---- signs

abbrev pub is_wanted : ℕ → Bool
is_wanted sign = nat_eq sign 102 || nat_eq sign 110

abbrev pub is_number : ℕ → Bool
is_number sign = nat_eq sign 110 || nat_eq sign 78

-- a word may stand at a sign
abbrev pub fits : ℕ → List ℕ → Bool
fits sign word = not (is_number sign) || is_numeral word

-- ---- sentences; words are counted behind the command, from 1 on

abbrev pub unknown_command : List ℕ
unknown_command = codes "no command has this name\n"

abbrev pub too_many : ℕ → List ℕ
too_many number = three (codes "word ") (decimal number) (codes " behind the command is one too many\n")

abbrev pub no_number : ℕ → List ℕ
no_number number = three (codes "word ") (decimal number) (codes " behind the command is to be a number\n")

abbrev pub missing : List ℕ
missing = codes "a word is missing at the end\n"

-- where words end before this sign
abbrev pub ended_at : ℕ → List ℕ
ended_at sign = if nat_eq sign 63 then unknown_command else if is_wanted sign then missing else []

-- the number of the first of the words that are left, of so many with the command
abbrev pub number_of : (total : ℕ) → List (List ℕ) → ℕ
number_of total words = total - length words

-- the first word that does not fit its sign; none where only limits of numbers are passed
abbrev pub wrong_word : (total : ℕ) → (pattern : List ℕ) → (words : List (List ℕ)) → List ℕ
wrong_word total [] [] = []
wrong_word total [] (word ∷ words) = too_many (number_of total (word ∷ words))
wrong_word total (sign ∷ signs) [] = ended_at sign
wrong_word total (sign ∷ signs) (word ∷ words) =
    if nat_eq sign 42 then []
    else if nat_eq sign 63 then unknown_command
    else if fits sign word then wrong_word total signs words
    else no_number (number_of total (word ∷ words))

-- of a whole command line
abbrev pub wrong_of : List (List ℕ) → List ℕ
wrong_of [] = []
wrong_of (word ∷ behind) = wrong_word (length (word ∷ behind)) (pattern_of word) behind
