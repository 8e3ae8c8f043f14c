-- The bytes of one direction of a link: a greeting, and then packets.
use Rattle.std.specs.Prelude.{ℕ, List, [], ◌∷◌, ◌++◌, length}
use Rattle.std.specs.List.{flat_map}
use Rattle.std.specs.Int.{w32, to_be_bytes}

-- the greeting of a host to another, with the digest of its plan
abbrev pub greeting : List ℕ → ℕ → ℕ → List ℕ
greeting plan from to = 0x47 ∷ 1 ∷ plan ++ from ∷ to ∷ []

-- a packet of these words
abbrev pub frame : List ℕ → List ℕ
frame words = 0x56 ∷ length words ∷ flat_map (to_be_bytes w32) words

-- packets of these words, one after the other
abbrev pub frames : List (List ℕ) → List ℕ
frames packets = flat_map frame packets
