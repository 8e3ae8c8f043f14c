-- Words: numbers of 32 bits.
use Rattle.std.specs.Prelude.{ℕ, ◌<◌, ◌^◌, List, [], ◌∷◌, slice_index, slice_index_or}

abbrev pub IsWord : ℕ → Type 0
IsWord n = n < 2 ^ 32

-- each is a word
abbrev pub AreWords : List ℕ → Type 0
AreWords [] = Unit {0}
AreWords (word ∷ words) = (word < 2 ^ 32) × AreWords words

-- all that hosts hand in are words
abbrev pub InputsAreWords : List (List ℕ) → Type 0
InputsAreWords inputs = (h i : ℕ) → slice_index (slice_index_or inputs h []) i < 2 ^ 32
