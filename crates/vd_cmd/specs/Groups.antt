-- The names of several hosts in one word, with commas between them.
use Rattle.std.specs.Prelude.{ℕ, nat_eq, ◌==◌, Bool, true, ◌&&◌, not, if◌then◌else◌, List, [], ◌∷◌, length, Option, Some, None}
use Rattle.std.specs.List.{list_any}
use Rattle.std.specs.Str.{bytes_eq}

-- a byte in front of the first of these texts
abbrev pub with_byte : ℕ → List (List ℕ) → List (List ℕ)
with_byte b [] = (b ∷ []) ∷ []
with_byte b (text ∷ texts) = (b ∷ text) ∷ texts

-- the texts between the commas of a word
unfoldable pub between_commas : List ℕ → List (List ℕ)
between_commas [] = [] ∷ []
between_commas (b ∷ rest) = if nat_eq b 0x2c then [] ∷ between_commas rest else with_byte b (between_commas rest)

-- the name is one of these
abbrev pub is_among : List (List ℕ) → List ℕ → Bool
is_among others name = list_any (λ other. bytes_eq other name) others

-- none of these names is empty, or stands twice
unfoldable pub are_new : List (List ℕ) → Bool
are_new [] = true
are_new (name ∷ others) = not (length name == 0) && (not (is_among others name) && are_new others)

-- the names of a group of hosts, unless one is empty or stands twice
abbrev pub group_of : List ℕ → Option (List (List ℕ))
group_of word = let names = between_commas word in if are_new names then Some names else None
