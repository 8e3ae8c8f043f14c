-- Where a generator stands, and the words that it gives from there on.
use Rattle.std.specs.Prelude.{◌≡◌, ℕ, ◌+◌, List}
use Rattle.rand_chacha.specs.ChaCha.{ChaCha, word_at}
use Rattle.vd_tape.specs.declared.deal_items.items.Triple.{Triple}
use Rattle.vd_tape.specs.Made.{cipher_key}

-- it has this key, and stands at this place of this stream
abbrev pub IsAt : ChaCha → (key : List ℕ) → (stream place : ℕ) → Type 0
IsAt generator key stream place = generator ≡ record { key = cipher_key key; stream = stream; word_pos = place }

abbrev pub stands_at : ChaCha → ℕ → ChaCha
stands_at generator place = record generator { word_pos = place }

abbrev pub words_at : ChaCha → ℕ → ℕ
words_at generator k = word_at 10 generator.key generator.stream (generator.word_pos + k)

-- the parts of a product whose last word is still to be found
abbrev pub open_parts : (ℕ → ℕ) → Triple × Triple
open_parts word = (record { a = word 0; b = word 1; c = word 2 }, record { a = word 3; b = word 4; c = 0 })
