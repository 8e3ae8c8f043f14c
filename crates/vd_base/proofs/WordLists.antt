-- What stands at each place of a list of words, and past its end.
use Rattle.std.proofs.Common.{ℕ, zero, suc, ◌<◌, ◌^◌, List, [], ◌∷◌, length, arith}
use Rattle.std.specs.Prelude.{slice_index, slice_index_or}
use Rattle.vd_base.specs.Words.{AreWords}

pub all_words : (words : List ℕ) → ((place : ℕ) → place < length words → slice_index words place < 2 ^ 32) → AreWords words
all_words [] each = tt
all_words (word ∷ words) each = (each 0 (omega arith), all_words words (λ place less. each (suc place) (omega (arith, less))))

pub each_word : (xs : List ℕ) → ((i : ℕ) → i < length xs → slice_index xs i < 2 ^ 32) → (i : ℕ) → slice_index xs i < 2 ^ 32
each_word [] all i = omega arith
each_word (x ∷ xs) all zero = all 0 (omega arith)
each_word (x ∷ xs) all (suc i) = each_word xs (λ j lt. all (suc j) (omega (arith, lt))) i

no_inputs : (h i : ℕ) → slice_index (slice_index_or [] h []) i < 2 ^ 32
no_inputs h i = omega arith

pub each_list : (xs : List (List ℕ)) → ((h : ℕ) → h < length xs → (i : ℕ) → slice_index (slice_index_or xs h []) i < 2 ^ 32) → (h i : ℕ) → slice_index (slice_index_or xs h []) i < 2 ^ 32
each_list [] all h i = no_inputs h i
each_list (x ∷ xs) all zero i = all 0 (omega arith) i
each_list (x ∷ xs) all (suc h) i = each_list xs (λ k lt. all (suc k) (omega (arith, lt))) h i
