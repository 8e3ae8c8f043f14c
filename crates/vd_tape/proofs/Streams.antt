-- The streams of a key, and the key of a number.
use Rattle.std.proofs.Common.{◌≡◌, ℕ, List, ◌++◌, ap, ◌∙◌}
use Rattle.std.specs.Prelude.{replicate}
use Rattle.std.specs.Int.{w64, to_le_bytes}
use Rattle.rand_chacha.specs.ChaCha.{ChaCha, of_seed}
use Rattle.vd_tape.specs.Made.{cipher_key, number_key}
use Rattle.vd_tape.specs.Generator.{IsAt}

pub seeded : (key : List ℕ) (number : ℕ) (g n : ChaCha) → g ≡ of_seed key → n ≡ record g { stream = number } → IsAt n key number 0
unfolding cipher_key
seeded key number g n e s = s ∙ ap (λ (h : ChaCha). record h { stream = number }) e

pub filled : (number : ℕ) (front bytes : List ℕ) → front ≡ bytes → bytes ≡ to_le_bytes w64 number → front ++ replicate 24 0 ≡ number_key number
unfolding number_key
filled number front bytes f b = ap (λ (xs : List ℕ). xs ++ replicate 24 0) (f ∙ b)
