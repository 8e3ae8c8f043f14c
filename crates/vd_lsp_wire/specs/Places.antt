-- Places as an editor counts them: lines from 0, and columns in units of UTF-16 from 0. A line ends with CR, LF, or both.
use Rattle.std.specs.Prelude.{ℕ, ◌+◌, ◌==◌, Bool, not, ◌&&◌, ◌||◌, nat_lt, if◌then◌else◌, List, [], ◌∷◌, ◌++◌, take}
use Rattle.std.specs.List.{count_by, fold}
use Rattle.vd_lsp_wire.specs.declared.place.Place.{Place}

abbrev pub is_line_end : ℕ → Bool
is_line_end b = b == 10 || b == 13

-- an LF behind a CR ends the line that the CR has ended
abbrev pub ends_line : ℕ → ℕ → Bool
ends_line before b = b == 13 || (b == 10 && not (before == 13))

-- how many lines end in these bytes, which stand behind this one
unfoldable pub lines_from : ℕ → List ℕ → ℕ
lines_from before [] = 0
lines_from before (b ∷ bs) = (if ends_line before b then 1 else 0) + lines_from b bs

abbrev pub lines : List ℕ → ℕ
lines bytes = lines_from 0 bytes

-- a line end begins a line, and each other byte goes to its end
abbrev pub with_byte : List ℕ → ℕ → List ℕ
with_byte line b = if is_line_end b then [] else line ++ b ∷ []

abbrev pub last_line : List ℕ → List ℕ
last_line bytes = fold with_byte [] bytes

-- a byte within a character, one that begins a character, and one that begins a character above U+FFFF, which takes two units
abbrev pub goes_on : ℕ → Bool
goes_on b = not (nat_lt b 128) && nat_lt b 192

abbrev pub begins : ℕ → Bool
begins b = not (goes_on b)

abbrev pub begins_pair : ℕ → Bool
begins_pair b = not (nat_lt b 240)

abbrev pub units : List ℕ → ℕ
units bytes = count_by begins bytes + count_by begins_pair bytes

abbrev pub place_of : List ℕ → ℕ → Place
place_of bytes offset = record { line = lines (take offset bytes); column = units (last_line (take offset bytes)) }
