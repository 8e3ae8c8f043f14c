-- What the hosts have still to hand in, and what each of them was told.
use Rattle.std.specs.Prelude.{ℕ, List, [], ◌∷◌, ◌++◌, replicate, slice_index_or, slice_set}

-- for each host in order, its words
pub record World : Type 0 where
  pub inputs : List (List ℕ)
  pub outputs : List (List ℕ)

-- at the start nobody was told anything
abbrev pub world_at_start : ℕ → List (List ℕ) → World
world_at_start hosts inputs = record { inputs = inputs; outputs = replicate hosts [] }

-- a list of inputs is followed by zeros
abbrev pub first_word : List ℕ → ℕ
first_word [] = 0
first_word (x ∷ xs) = x

abbrev pub later_words : List ℕ → List ℕ
later_words [] = []
later_words (x ∷ xs) = xs

-- the next word of a host
abbrev pub input_word : World → ℕ → ℕ
input_word w host = first_word (slice_index_or w.inputs host [])

-- the world once that word is taken
abbrev pub after_input : World → ℕ → World
after_input w host = record { inputs = slice_set w.inputs host (later_words (slice_index_or w.inputs host [])); outputs = w.outputs }

-- the world once a word is output to a host
abbrev pub after_output : World → ℕ → ℕ → World
after_output w host word = record { inputs = w.inputs; outputs = slice_set w.outputs host (slice_index_or w.outputs host [] ++ word ∷ []) }
