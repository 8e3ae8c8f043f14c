-- The product, bit by bit, of two shared words.
use Rattle.std.proofs.Common.{◌≡◌, ℕ, ◌+◌, ◌%◌, ◌<◌, min, sym, ap, ap₂, ◌∙◌, arith, bit_and, bit_xor}
use Rattle.std.specs.Int.{bit_at}
use Rattle.std.specs.Int.Bits.{xor_assoc, xor_self, xor_zero_r}
use Rattle.std.proofs.lemmas.Nat.{xor_comm}
use Rattle.std.proofs.lemmas.Nat.Bits.{bit_at_and, bit_at_xor, bit_at-lt, same_from_bits}
use Rattle.vd_tape.specs.Identities.{MeetsAnd}
use Rattle.vd_backend_sharing.specs.Products.{Side, bits_d, bits_e, bits_part, bits_first_part}
use Rattle.vd_backend_sharing.proofs.BackendAlgebraParts.{xor_turn}

and_xor : (a b c : ℕ) → bit_and a (bit_xor b c) ≡ bit_xor (bit_and a b) (bit_and a c)
and_xor a b c = same_from_bits _ _ (λ i.
    simp (bit_at_and, bit_at_xor) (at_bits (bit_at a i) (bit_at b i) (bit_at c i) (bit_at-lt a i) (bit_at-lt b i) (bit_at-lt c i)))
  where
    at_bits : (x y z : ℕ) → x < 2 → y < 2 → z < 2 → min x ((y + z) % 2) ≡ (min x y + min x z) % 2
    at_bits x y z p q r = omega arith

-- the product from d = x ^ a and e = y ^ b
unmasked : (a b d e : ℕ) → bit_and (bit_xor d a) (bit_xor e b) ≡ bit_xor (bit_xor (bit_xor (bit_and d b) (bit_and a b)) (bit_and e a)) (bit_and d e)
unmasked a b d e = same_from_bits _ _ (λ i.
    rw (
      bit_at_and (bit_xor d a) (bit_xor e b) i,
      bit_at_xor d a i,
      bit_at_xor e b i,
      bit_at_xor (bit_xor (bit_xor (bit_and d b) (bit_and a b)) (bit_and e a)) (bit_and d e) i,
      bit_at_xor (bit_xor (bit_and d b) (bit_and a b)) (bit_and e a) i,
      bit_at_xor (bit_and d b) (bit_and a b) i,
      bit_at_and d b i,
      bit_at_and a b i,
      bit_at_and e a i,
      bit_at_and d e i,
    )
    (at_bits (bit_at a i) (bit_at b i) (bit_at d i) (bit_at e i) (bit_at-lt a i) (bit_at-lt b i) (bit_at-lt d i) (bit_at-lt e i)))
  where
    at_bits : (a b d e : ℕ) → a < 2 → b < 2 → d < 2 → e < 2 → min ((d + a) % 2) ((e + b) % 2) ≡ (((min d b + min a b) % 2 + min e a) % 2 + min d e) % 2
    at_bits a b d e p q r s = omega arith

-- the two parts together, each kind of term on its own
gathered : (p c q r p' c' q' : ℕ) → bit_xor (bit_xor (bit_xor (bit_xor p c) q) r) (bit_xor (bit_xor p' c') q') ≡ bit_xor (bit_xor (bit_xor (bit_xor p p') (bit_xor c c')) (bit_xor q q')) r
gathered p c q r p' c' q' = same_from_bits _ _ (λ i.
    simp bit_at_xor (at_bits (bit_at p i) (bit_at c i) (bit_at q i) (bit_at r i) (bit_at p' i) (bit_at c' i) (bit_at q' i)))
  where
    at_bits : (p c q r p' c' q' : ℕ) → ((((p + c) % 2 + q) % 2 + r) % 2 + ((p' + c') % 2 + q') % 2) % 2 ≡ ((((p + p') % 2 + (c + c') % 2) % 2 + (q + q') % 2) % 2 + r) % 2
    at_bits p c q r p' c' q' = omega arith

uncovered : (x x' a a' : ℕ) → bit_xor (bit_xor (bit_xor x a) (bit_xor x' a')) (bit_xor a a') ≡ bit_xor x x'
uncovered x x' a a' =
    ap (λ (z : ℕ). bit_xor z (bit_xor a a')) (xor_turn x a x' a') ∙ xor_assoc (bit_xor x x') (bit_xor a a') (bit_xor a a')
    ∙ ap (bit_xor (bit_xor x x')) (xor_self (bit_xor a a')) ∙ xor_zero_r (bit_xor x x')

pub bit_product : (m n : Side) → MeetsAnd m.item n.item
    → bit_xor (bits_first_part m n) (bits_part n m) ≡ bit_and (bit_xor m.x n.x) (bit_xor m.y n.y)
bit_product m n meets =
    let d : ℕ = bits_d m n in
    let e : ℕ = bits_e m n in
    let a : ℕ = bit_xor m.item.a n.item.a in
    let b : ℕ = bit_xor m.item.b n.item.b in
    ap₂ (λ (u v : ℕ). bit_xor (bits_first_part m n) (bit_xor (bit_xor (bit_and u n.item.b) n.item.c) (bit_and v n.item.a)))
    (xor_comm (bit_xor n.x n.item.a) (bit_xor m.x m.item.a)) (xor_comm (bit_xor n.y n.item.b) (bit_xor m.y m.item.b))
    ∙ gathered (bit_and d m.item.b) m.item.c (bit_and e m.item.a) (bit_and d e) (bit_and d n.item.b) n.item.c (bit_and e n.item.a)
    ∙ ap₂ (λ (u v : ℕ). bit_xor (bit_xor (bit_xor u (bit_xor m.item.c n.item.c)) v) (bit_and d e))
    (sym (and_xor d m.item.b n.item.b)) (sym (and_xor e m.item.a n.item.a))
    ∙ ap (λ (z : ℕ). bit_xor (bit_xor (bit_xor (bit_and d b) z) (bit_and e a)) (bit_and d e)) (sym meets)
    ∙ sym (unmasked a b d e)
    ∙ ap₂ (λ (u v : ℕ). bit_and u v) (uncovered m.x n.x m.item.a n.item.a) (uncovered m.y n.y m.item.b n.item.b)
