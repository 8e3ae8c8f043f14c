-- A product of words, step by step.
use Rattle.std.proofs.Common.{◌≡◌, ℕ, ◌+◌, ◌-◌, ◌*◌, ◌%◌, ◌^◌, ap, ap₂, ◌∙◌}
use Rattle.std.proofs.lemmas.Nat.{mul-mod_first, mul-mod_second}
use Rattle.std.proofs.Math.Nat.{mod-add-mod}
use Rattle.vd_tape.specs.declared.deal_items.items.Triple.{Triple}

product : (a b d m : ℕ) → ((a % m) * (b % m) % m + d) % m ≡ (a * b + d) % m
product a b d m = ap (λ z. (z + d) % m) (mul-mod_first a (b % m) m ∙ mul-mod_second a b m) ∙ mod-add-mod (a * b) m d

abbrev stepwise : ℕ → ℕ → ℕ → ℕ → ℕ → Triple
stepwise x y a b c = record { a = x; b = y; c = ((x + a) % 2 ^ 32 * ((y + b) % 2 ^ 32) % 2 ^ 32 + (2 ^ 32 - c)) % 2 ^ 32 }

abbrev whole : ℕ → ℕ → ℕ → ℕ → ℕ → Triple
whole x y a b c = record { a = x; b = y; c = ((x + a) * (y + b) + (2 ^ 32 - c)) % 2 ^ 32 }

with_c : (x y z w : ℕ) → z ≡ w → ◌≡◌ {A = Triple} (record { a = x; b = y; c = z }) (record { a = x; b = y; c = w })
with_c x y z w e = ap (λ (v : ℕ). record { a = x; b = y; c = v }) e

pub triple_made : (x x' y y' a b c : ℕ) → x ≡ x' → y ≡ y' → stepwise x y a b c ≡ whole x' y' a b c
triple_made x x' y y' a b c e f = ap₂ (λ (p q : ℕ). stepwise p q a b c) e f ∙ with_c x' y' _ _ (product (x' + a) (y' + b) (2 ^ 32 - c) (2 ^ 32))
