-- What can be done part by part to a word that is shared by exclusive or, and by sums.
use Rattle.std.proofs.Common.{◌≡◌, ℕ, zero, suc, ◌+◌, ◌*◌, ◌%◌, ◌^◌, ◌<◌, refl, sym, ap, ap₂, ◌∙◌, arith, bit_xor, lit<, add-zero, pow_pos}
use Rattle.std.proofs.Math.Nat.{mod-lt, mod-add-mod, add-mod-mod, add-mul}
use Rattle.std.specs.Int.Bits.{xor_assoc, xor_self, xor_zero_r}
use Rattle.std.proofs.lemmas.Nat.{xor_comm, xor_mod, xor_block, xor_shr, mul-mod_first}
use Rattle.vd_backend_sharing.specs.Circuits.{shl, shr, mask_of}
use Rattle.vd_backend_sharing.specs.Sharing.{IsDoneAtEach, plus, times}
use Rattle.vd_backend_sharing.proofs.Choices.{spread, mask_is}

-- ---- by exclusive or

-- the last two exchanged
pub xor_past : (k p q : ℕ) → bit_xor (bit_xor p k) q ≡ bit_xor (bit_xor p q) k
xor_past k p q = xor_assoc p k q ∙ ap (bit_xor p) (xor_comm k q) ∙ sym (xor_assoc p q k)

-- the middle two exchanged
pub xor_turn : (a b c d : ℕ) → bit_xor (bit_xor a b) (bit_xor c d) ≡ bit_xor (bit_xor a c) (bit_xor b d)
xor_turn a b c d = sym (xor_assoc (bit_xor a b) c d) ∙ ap (λ (z : ℕ). bit_xor z d) (xor_past b a c) ∙ xor_assoc (bit_xor a c) b d

pub taken_off : (x r : ℕ) → bit_xor (bit_xor x r) r ≡ x
taken_off x r = xor_assoc x r r ∙ ap (bit_xor x) (xor_self r) ∙ xor_zero_r x

pub put_on : (x r : ℕ) → bit_xor r (bit_xor x r) ≡ x
put_on x r = xor_comm r (bit_xor x r) ∙ taken_off x r

pub shl_each : (k : ℕ) → IsDoneAtEach (λ p. shl p k)
shl_each k p q = sym (xor_mod (p * 2 ^ k) (q * 2 ^ k) 32) ∙ ap (λ (z : ℕ). z % 2 ^ 32) whole
  where
    whole : bit_xor (p * 2 ^ k) (q * 2 ^ k) ≡ bit_xor p q * 2 ^ k
    whole =
        ap₂ (λ (u v : ℕ). bit_xor u v) (sym (add-zero (p * 2 ^ k))) (sym (add-zero (q * 2 ^ k)))
        ∙ xor_block k p q 0 0 (pow_pos k) (pow_pos k) ∙ add-zero (bit_xor p q * 2 ^ k)

pub shr_each : (k : ℕ) → IsDoneAtEach (λ p. shr p k)
shr_each k p q = sym (xor_shr p q k)

spread_each : (a b : ℕ) → a < 2 → b < 2 → bit_xor (spread a) (spread b) ≡ spread (bit_xor a b)
spread_each zero zero h k = refl
spread_each zero (suc zero) h k = refl
spread_each (suc zero) zero h k = refl
spread_each (suc zero) (suc zero) h k = refl
spread_each (suc (suc a)) b h k = absurd (omega arith)
spread_each zero (suc (suc b)) h k = absurd (omega arith)
spread_each (suc zero) (suc (suc b)) h k = absurd (omega arith)

pub mask_each : IsDoneAtEach mask_of
mask_each p q =
    ap₂ (λ (u v : ℕ). bit_xor u v) (mask_is p) (mask_is q) ∙ spread_each (p % 2) (q % 2) (mod-lt p (lit< tt)) (mod-lt q (lit< tt))
    ∙ ap spread (sym (xor_mod p q 1)) ∙ sym (mask_is (bit_xor p q))

-- ---- by sums

pub scale_each : (k x y : ℕ) → plus (times x k) (times y k) ≡ times (plus x y) k
scale_each k x y =
    mod-add-mod (x * k) (2 ^ 32) (times y k) ∙ add-mod-mod (x * k) (y * k) (2 ^ 32)
    ∙ ap (λ (z : ℕ). z % 2 ^ 32) (sym (add-mul x y k)) ∙ sym (mul-mod_first (x + y) k (2 ^ 32))
