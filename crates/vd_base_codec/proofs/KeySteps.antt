-- A digit at the front of bytes.
use Rattle.std.proofs.Common.{◌≡◌, ◌∙◌, ◌≤◌, ℕ, List, [], ◌∷◌, length, drop, Some, None, Ok, Err, refl, ap, sym, arith}
use Rattle.vd_base_codec.specs.Reading.{first}
use Rattle.vd_base_codec.specs.Digits.{hex_value, with_digit, digit_at}

pub digit_none : (bytes : List ℕ) → None ≡ first bytes → digit_at bytes ≡ Err bytes
digit_none [] e = refl
digit_none (b ∷ bytes) e = absurd cc

pub digit_other : (bytes : List ℕ) (b : ℕ) → Some b ≡ first bytes → None ≡ hex_value b → digit_at bytes ≡ Err bytes
digit_other [] b e g = absurd cc
digit_other (c ∷ bytes) b e g = let same : b ≡ c = cc in ap (with_digit c bytes) (sym (g ∙ ap hex_value same))

pub digit_found : (bytes : List ℕ) (b x : ℕ) → Some b ≡ first bytes → Some x ≡ hex_value b → digit_at bytes ≡ Ok (x, drop 1 bytes)
digit_found [] b x e g = absurd cc
digit_found (c ∷ bytes) b x e g = let same : b ≡ c = cc in ap (with_digit c bytes) (sym (g ∙ ap hex_value same))

pub digit_there : (bytes : List ℕ) (b : ℕ) → Some b ≡ first bytes → 1 ≤ length bytes
digit_there [] b e = absurd cc
digit_there (c ∷ bytes) b e = omega arith
