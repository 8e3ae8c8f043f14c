-- The line of a text at which an offset stands. A line ends with LF.
use Rattle.std.specs.Prelude.{ℕ, ◌+◌, ◌==◌, Bool, not, if◌then◌else◌, List, [], ◌∷◌, ◌++◌, take, drop}
use Rattle.std.specs.List.{count_by, fold, take_while}

abbrev pub ends_line : ℕ → Bool
ends_line b = b == 10

abbrev pub is_in_line : ℕ → Bool
is_in_line b = not (ends_line b)

-- the number of the line, from 1
abbrev pub line_number : List ℕ → ℕ → ℕ
line_number bytes offset = count_by ends_line (take offset bytes) + 1

-- LF begins a line, and each other byte goes to its end
abbrev pub with_byte : List ℕ → ℕ → List ℕ
with_byte line b = if ends_line b then [] else line ++ b ∷ []

abbrev pub last_line : List ℕ → List ℕ
last_line bytes = fold with_byte [] bytes

-- the bytes of the line before the offset
abbrev pub line_before : List ℕ → ℕ → List ℕ
line_before bytes offset = last_line (take offset bytes)

-- the bytes of the line from the offset on
abbrev pub line_behind : List ℕ → ℕ → List ℕ
line_behind bytes offset = take_while is_in_line (drop offset bytes)
