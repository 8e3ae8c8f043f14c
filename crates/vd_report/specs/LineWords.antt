-- The words of a printed line, as a person or a shell reads them: what white space parts.
use Rattle.std.specs.Prelude.{ℕ, Bool, not, if◌then◌else◌, List, [], ◌∷◌, ◌++◌}
use Rattle.vd_base.specs.Lexical.{is_space}

-- a byte that is part of a word
abbrev pub is_inside : ℕ → Bool
is_inside b = not (is_space b)

-- one word before others, if it has a byte
abbrev pub with_word : List ℕ → List (List ℕ) → List (List ℕ)
with_word [] words = words
with_word (b ∷ word) words = (b ∷ word) ∷ words

-- the words of which the first has begun so
abbrev pub words_from : (begun bytes : List ℕ) → List (List ℕ)
words_from begun [] = with_word begun []
words_from begun (b ∷ bytes) = if is_space b then with_word begun (words_from [] bytes) else words_from (begun ++ b ∷ []) bytes

abbrev pub line_words : List ℕ → List (List ℕ)
line_words line = words_from [] line
