-- Counts that stop at 2^32 - 1 are the exact ones, capped.
use Rattle.std.proofs.Common.{◌≡◌, ℕ, zero, suc, ◌+◌, ◌*◌, ◌-◌, ◌<◌, ◌≤◌, ◌^◌, ◌⊎◌, inl, inr, min, max, refl, sym, ap, ◌∙◌, arith, rules}
use Rattle.std.proofs.lemmas.Bool.{cases_lt}
use Rattle.std.proofs.Math.Nat.{mul-le-mul_right, mul-le-mul_left}
use Rattle.vd_resolve.specs.Sizes.{capped}

pub capped_sum : (a b x y s : ℕ) → a ≡ capped x → b ≡ capped y → s ≡ capped (a + b) → s ≡ capped (x + y)
capped_sum a b x y s p q r = omega arith

pub capped_max : (a b x y s : ℕ) → a ≡ capped x → b ≡ capped y → s ≡ max a b → s ≡ capped (max x y)
capped_max a b x y s p q r = omega arith

-- a product that is not capped, or whose first factor is
pub capped_product : (a x n s : ℕ) → a ≡ capped x → s ≡ capped (a * n) → s ≡ capped (x * n)
capped_product a x zero s p q = omega arith
capped_product a x (suc n) s p q = elim (cases_lt x (2 ^ 32)) [
  | inl small ↦ (let same : a ≡ x = omega arith in q ∙ ap (λ z. capped (z * suc n)) same)
  | inr large ↦
      (let top : a ≡ 4294967295 = omega arith in
      let grows : x * 1 ≤ x * suc n = mul-le-mul_left x (omega arith) in
      let grows' : a * 1 ≤ a * suc n = mul-le-mul_left a (omega arith) in
      omega (arith, grows, grows'))
]
