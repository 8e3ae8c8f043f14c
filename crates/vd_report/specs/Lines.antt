-- The lines that are printed, as bytes.
use Rattle.std.specs.Prelude.{ℕ, List, [], ◌∷◌, ◌++◌, length, flat_map, decimal}

-- a number behind the space that parts it from what stands before it
abbrev pub number_field : ℕ → List ℕ
number_field n = 32 ∷ decimal n

-- a head, the number of words and the words
abbrev pub words_line : List ℕ → List ℕ → List ℕ
words_line head words = head ++ number_field (length words) ++ flat_map number_field words ++ 10 ∷ []

-- a line for each host
abbrev pub output_lines : List (List ℕ) → List (List ℕ) → List ℕ
output_lines [] outputs = []
output_lines (host ∷ hosts) [] = []
output_lines (host ∷ hosts) (words ∷ outputs) = words_line host words ++ output_lines hosts outputs
