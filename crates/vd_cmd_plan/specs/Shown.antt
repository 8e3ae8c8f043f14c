-- Names as they are shown in a line.
use Rattle.std.specs.Prelude.{◌≡◌, ℕ, Bool, true, ◌||◌, not, nat_eq, nat_lt, List, map, length, if◌then◌else◌}
use Rattle.std.specs.List.{list_all}

-- control characters, those below 32 and 127, are shown as blanks
abbrev pub shown_byte : ℕ → ℕ
shown_byte byte = if nat_lt byte 32 || nat_eq byte 127 then 32 else byte

abbrev pub shown : List ℕ → List ℕ
shown bytes = map shown_byte bytes

-- a byte that no terminal takes for a command
abbrev pub is_plain : ℕ → Bool
is_plain byte = not (nat_lt byte 32 || nat_eq byte 127)

-- A shown name has as many bytes as the name, all of them plain. A name of plain bytes is shown as it is.
pub record NamesAreShownPlain : Type 0 where
  pub plain : (name : List ℕ) → list_all is_plain (shown name) ≡ true
  pub long : (name : List ℕ) → length (shown name) ≡ length name
  pub same : (name : List ℕ) → list_all is_plain name ≡ true → shown name ≡ name
