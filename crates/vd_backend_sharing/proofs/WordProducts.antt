-- The product, modulo 2^32, of two shared words.
use Rattle.std.proofs.Common.{◌≡◌, ℕ, ◌+◌, ◌-◌, ◌*◌, ◌%◌, ◌^◌, ◌≤◌, refl, sym, ap, ap₂, ◌∙◌, arith}
use Rattle.std.proofs.Math.Nat.{add-mod, mod-add-mod, mod-mod, add-mod_right, add_comm, mul_comm, mul-add, add-mul}
use Rattle.std.proofs.lemmas.Nat.{mul-mod}
use Rattle.vd_tape.specs.Identities.{MeetsMul}
use Rattle.vd_tape.specs.Validity.{AreTripleWords}
use Rattle.vd_backend_sharing.specs.Sharing.{plus, minus, times}
use Rattle.vd_backend_sharing.specs.Products.{Side, words_d, words_e, words_part, words_first_part}

module _ (m : ℕ) where
  -- both have one rest modulo m
  record Same (a b : ℕ) : Type 0 where
    is : a % m ≡ b % m

  itself : (a : ℕ) → Same a a
  itself a = record { is = refl }

  same_rest : (a b : ℕ) → Same a b → Same (a % m) b
  same_rest a b p = record { is = mod-mod a m ∙ p.is }

  same_sum : (a b c d : ℕ) → Same a b → Same c d → Same (a + c) (b + d)
  same_sum a b c d p q = record { is = add-mod a c m ∙ rw (p.is, q.is) (sym (add-mod b d m)) }

  same_product : (a b c d : ℕ) → Same a b → Same c d → Same (a * c) (b * d)
  same_product a b c d p q = record { is = mul-mod a c m ∙ rw (p.is, q.is) (sym (mul-mod b d m)) }

  -- what is taken off and put back
  put_back : (x a : ℕ) → a ≤ m → Same ((x + (m - a)) % m + a) x
  put_back x a h =
      let e : x + (m - a) + a ≡ x + m = omega arith in
      record { is = mod-add-mod (x + (m - a)) m a ∙ ap (λ (z : ℕ). z % m) e ∙ add-mod_right x m }

  -- d, the sum of two words that are masked by a and a', is what the words lack
  unmasked : (x x' a a' : ℕ) → a ≤ m → a' ≤ m → Same (((x + (m - a)) % m + (x' + (m - a')) % m) % m + (a + a')) (x + x')
  unmasked x x' a a' h h' =
      let u : ℕ = (x + (m - a)) % m in
      let v : ℕ = (x' + (m - a')) % m in
      let one : Same (u + a + (v + a')) (x + x') = same_sum (u + a) x (v + a') x' (put_back x a h) (put_back x' a' h') in
      record { is = mod-add-mod (u + v) m (a + a') ∙ ap (λ (z : ℕ). z % m) (turned u a v a') ∙ one.is }
    where
      turned : (p q r s : ℕ) → p + r + (q + s) ≡ p + q + (r + s)
      turned p q r s = omega arith

  -- a part without the rests in between
  part_is : (d e a b c : ℕ) → Same (((d * b % m + c) % m + e * a % m) % m) (d * b + c + e * a)
  part_is d e a b c =
      same_rest _ _ (same_sum _ _ _ _ (same_rest _ _ (same_sum _ _ c c (same_rest _ _ (itself (d * b))) (itself c))) (same_rest _ _ (itself (e * a))))

  -- the product of x = d + a and y = e + b, where a * b is known as c
  product : (x y a b c d e : ℕ) → Same (d + a) x → Same (e + b) y → Same (a * b) c → Same (c + d * b + e * a + d * e) (x * y)
  product x y a b c d e p q r =
      let closed : Same (a * b + d * b + e * a + d * e) (c + d * b + e * a + d * e) =
      same_sum _ _ _ _ (same_sum _ _ _ _ (same_sum _ _ _ _ r (itself (d * b))) (itself (e * a))) (itself (d * e)) in
      let opened : Same ((d + a) * (e + b)) (x * y) = same_product (d + a) x (e + b) y p q in
      record { is = sym closed.is ∙ ap (λ (z : ℕ). z % m) (expanded d a e b) ∙ opened.is }
    where
      expanded : (d a e b : ℕ) → a * b + d * b + e * a + d * e ≡ (d + a) * (e + b)
      expanded d a e b = grind (arith, mul-add, add-mul, mul_comm)

  both_parts : (d e a a' b b' c c' : ℕ)
      → Same ((((d * b % m + c) % m + e * a % m) % m + d * e % m) % m + ((d * b' % m + c') % m + e * a' % m) % m) (c + c' + d * (b + b') + e * (a + a') + d * e)
  both_parts d e a a' b b' c c' =
      let first : Same ((((d * b % m + c) % m + e * a % m) % m + d * e % m) % m) (d * b + c + e * a + d * e) =
      same_rest _ _ (same_sum _ _ _ _ (part_is d e a b c) (same_rest _ _ (itself (d * e)))) in
      record { is = (same_sum _ _ _ _ first (part_is d e a' b' c')).is ∙ ap (λ (z : ℕ). z % m) (gathered d e a a' b b' c c') }
    where
      gathered : (d e a a' b b' c c' : ℕ) → d * b + c + e * a + d * e + (d * b' + c' + e * a') ≡ c + c' + d * (b + b') + e * (a + a') + d * e
      gathered d e a a' b b' c c' = omega arith

pub word_product : (m n : Side) → AreTripleWords m.item → AreTripleWords n.item → MeetsMul m.item n.item
    → plus (words_first_part m n) (words_part n m) ≡ times (plus m.x n.x) (plus m.y n.y)
word_product m n hm hn meets =
    let d : ℕ = words_d m n in
    let e : ℕ = words_e m n in
    let a : ℕ = m.item.a + n.item.a in
    let b : ℕ = m.item.b + n.item.b in
    let c : ℕ = m.item.c + n.item.c in
    let lacks_x : Same (2 ^ 32) (d + a) (m.x + n.x) = unmasked (2 ^ 32) m.x n.x m.item.a n.item.a (omega (arith, hm.0)) (omega (arith, hn.0)) in
    let lacks_y : Same (2 ^ 32) (e + b) (m.y + n.y) = unmasked (2 ^ 32) m.y n.y m.item.b n.item.b (omega (arith, hm.1)) (omega (arith, hn.1)) in
    ap₂ (λ (u v : ℕ). plus (words_first_part m n) (plus (plus (times u n.item.b) n.item.c) (times v n.item.a)))
    (ap (λ (z : ℕ). z % 2 ^ 32) (add_comm (minus n.x n.item.a) (minus m.x m.item.a)))
    (ap (λ (z : ℕ). z % 2 ^ 32) (add_comm (minus n.y n.item.b) (minus m.y m.item.b)))
    ∙ (both_parts (2 ^ 32) d e m.item.a n.item.a m.item.b n.item.b m.item.c n.item.c).is
    ∙ (product (2 ^ 32) (m.x + n.x) (m.y + n.y) a b c d e lacks_x lacks_y (record { is = meets })).is
    ∙ mul-mod (m.x + n.x) (m.y + n.y) (2 ^ 32)
