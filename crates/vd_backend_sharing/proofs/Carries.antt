-- Carries that are looked ahead are those of a sum that is reckoned bit by bit.
use Rattle.std.proofs.Common.{◌≡◌, ℕ, zero, suc, ◌+◌, ◌-◌, ◌*◌, ◌/◌, ◌%◌, ◌^◌, ◌<◌, ◌≤◌, min, refl, sym, ap, ap₂, ◌∙◌, arith, bit_and, lit<, add-zero}
use native.Mathlib.Decide.{dec_lt}
use Rattle.std.specs.Int.{bit_at}
use Rattle.std.proofs.Math.Nat.{mod-lt, div-div-eq-div-mul, pow-suc}
use Rattle.std.proofs.lemmas.Nat.{xor_lt}
use Rattle.std.specs.Int.Bits.{and_lt}
use Rattle.std.proofs.lemmas.Nat.Bits.{bit_at_and, bit_at_xor, bit_at-lt, bit_at-suc, bit_at_lowest}
use Rattle.vd_backend_sharing.specs.Circuits.{shl, Lookahead, single, doubled, carries}
use Rattle.vd_backend_sharing.proofs.Bits.{shl_low, shl_high}

-- a carry out of a bit, from its generated carry, its passing and the carry into it
abbrev pub over : ℕ → ℕ → ℕ → ℕ
over g p c = (g + min p c) % 2

module _ (x y : ℕ) where
  abbrev generated : ℕ → ℕ
  generated i = min (bit_at x i) (bit_at y i)

  abbrev passed : ℕ → ℕ
  passed i = (bit_at x i + bit_at y i) % 2

  -- the carry out of the n bits below i, and whether they pass a carry on
  abbrev gen : ℕ → ℕ → ℕ
  gen zero i = 0
  gen (suc n) zero = 0
  gen (suc n) (suc i) = over (generated i) (passed i) (gen n i)

  abbrev prop : ℕ → ℕ → ℕ
  prop zero i = 1
  prop (suc n) zero = 0
  prop (suc n) (suc i) = min (passed i) (prop n i)

  gen_zero : (n : ℕ) → gen n 0 ≡ 0
  gen_zero zero = refl
  gen_zero (suc n) = refl

  gen_small : (n i : ℕ) → gen n i < 2
  gen_small zero i = lit< tt
  gen_small (suc n) zero = lit< tt
  gen_small (suc n) (suc i) = mod-lt _ (lit< tt)

  prop_small : (n i : ℕ) → prop n i < 2
  prop_small zero i = lit< tt
  prop_small (suc n) zero = lit< tt
  prop_small (suc n) (suc i) = let h : passed i < 2 = mod-lt _ (lit< tt) in omega (arith, prop_small n i)

  joined_bits : (g p a b c : ℕ) → g < 2 → p < 2 → a < 2 → b < 2 → c < 2 → over g p (over a b c) ≡ over (over g p a) (min p b) c
  joined_bits g p a b c i j k l m = omega arith

  gen_join : (m n i : ℕ) → gen (m + n) i ≡ over (gen m i) (prop m i) (gen n (i - m))
  gen_join zero n i =
      let a : zero + n ≡ n = omega arith in
      let b : i - zero ≡ i = omega arith in
      let h : gen n i < 2 = gen_small n i in
      ap (λ (k : ℕ). gen k i) a ∙ alone (gen n i) h ∙ ap (λ (k : ℕ). over 0 1 (gen n k)) (sym b)
    where
      alone : (c : ℕ) → c < 2 → c ≡ over 0 1 c
      alone c h = omega arith
  gen_join (suc m) n zero =
      let a : suc m + n ≡ suc (m + n) = omega arith in
      ap (λ (k : ℕ). gen k zero) a ∙ none (gen n (zero - suc m))
    where
      none : (c : ℕ) → 0 ≡ over 0 0 c
      none c = omega arith
  gen_join (suc m) n (suc i) =
      let a : suc m + n ≡ suc (m + n) = omega arith in
      let b : suc i - suc m ≡ i - m = omega arith in
      let lg : generated i < 2 = omega (arith, bit_at-lt x i, bit_at-lt y i) in
      ap (λ (k : ℕ). gen k (suc i)) a ∙ ap (λ (c : ℕ). over (generated i) (passed i) c) (gen_join m n i)
      ∙ joined_bits (generated i) (passed i) (gen m i) (prop m i) (gen n (i - m)) lg (mod-lt _ (lit< tt)) (gen_small m i) (prop_small m i) (gen_small n (i - m))
      ∙ ap (λ (k : ℕ). over (over (generated i) (passed i) (gen m i)) (min (passed i) (prop m i)) (gen n k)) (sym b)

  prop_join : (m n i : ℕ) → prop (m + n) i ≡ min (prop m i) (prop n (i - m))
  prop_join zero n i =
      let a : zero + n ≡ n = omega arith in
      let b : i - zero ≡ i = omega arith in
      let h : prop n i < 2 = prop_small n i in
      ap (λ (k : ℕ). prop k i) a ∙ alone (prop n i) h ∙ ap (λ (k : ℕ). min 1 (prop n k)) (sym b)
    where
      alone : (c : ℕ) → c < 2 → c ≡ min 1 c
      alone c h = omega arith
  prop_join (suc m) n zero =
      let a : suc m + n ≡ suc (m + n) = omega arith in
      ap (λ (k : ℕ). prop k zero) a ∙ none (prop n (zero - suc m))
    where
      none : (c : ℕ) → 0 ≡ min 0 c
      none c = omega arith
  prop_join (suc m) n (suc i) =
      let a : suc m + n ≡ suc (m + n) = omega arith in
      let b : suc i - suc m ≡ i - m = omega arith in
      ap (λ (k : ℕ). prop k (suc i)) a ∙ ap (λ (c : ℕ). min (passed i) c) (prop_join m n i) ∙ three (passed i) (prop m i) (prop n (i - m))
      ∙ ap (λ (k : ℕ). min (min (passed i) (prop m i)) (prop n k)) (sym b)
    where
      three : (a b c : ℕ) → min a (min b c) ≡ min (min a b) c
      three a b c = omega arith

  -- bit i of each word is about the group of so many bits up to bit i
  record Groups (bits : ℕ) (m : Lookahead) : Type 0 where
    generate : (i : ℕ) → i < 32 → bit_at m.generate i ≡ gen bits (suc i)
    propagate : (i : ℕ) → i < 32 → bit_at m.propagate i ≡ prop bits (suc i)

  single_bits : Groups 1 (single x y)
  single_bits = record {
    generate = λ i h. bit_at_and x y i ∙ whole (generated i) (passed i) (omega (arith, bit_at-lt x i, bit_at-lt y i));
    propagate = λ i h. bit_at_xor x y i ∙ alone (passed i) (mod-lt _ (lit< tt));
  }
    where
      whole : (g p : ℕ) → g < 2 → g ≡ over g p 0
      whole g p h = omega arith

      alone : (p : ℕ) → p < 2 → p ≡ min p 1
      alone p h = omega arith

  shifted : (f : ℕ → ℕ → ℕ) (s n : ℕ) → f s 0 ≡ 0 → ((i : ℕ) → i < 32 → bit_at n i ≡ f s (suc i)) → (i : ℕ) → i < 32 → bit_at (shl n s) i ≡ f s (suc i - s)
  shifted f s n z e i h = elim (dec_lt i s) [ yes l ↦ low l | no l ↦ high (omega arith) ]
    where
      low : i < s → bit_at (shl n s) i ≡ f s (suc i - s)
      low l = let q : suc i - s ≡ 0 = omega arith in shl_low n s i h l ∙ sym z ∙ ap (f s) (sym q)

      high : s ≤ i → bit_at (shl n s) i ≡ f s (suc i - s)
      high l =
          let q : suc i - s ≡ suc (i - s) = omega arith in
          let k : i - s < 32 = omega arith in
          shl_high n s i h l ∙ e (i - s) k ∙ ap (f s) (sym q)

  prop_zero : (s : ℕ) → 0 < s → prop s 0 ≡ 0
  prop_zero zero h = absurd (omega arith)
  prop_zero (suc s) h = refl

  doubled_bits : (s : ℕ) (m : Lookahead) → 0 < s → Groups s m → Groups (s + s) (doubled s m)
  doubled_bits s m pos l = record {
    generate = λ i h. bit_at_xor m.generate (bit_and m.propagate (shl m.generate s)) i
        ∙ ap (λ (z : ℕ). (bit_at m.generate i + z) % 2) (bit_at_and m.propagate (shl m.generate s) i)
        ∙ three (l.generate i h) (l.propagate i h) (shifted gen s m.generate (gen_zero s) l.generate i h) ∙ sym (gen_join s s (suc i));
    propagate = λ i h. bit_at_and m.propagate (shl m.propagate s) i
        ∙ ap₂ (λ (a b : ℕ). min a b) (l.propagate i h) (shifted prop s m.propagate (prop_zero s pos) l.propagate i h) ∙ sym (prop_join s s (suc i));
  }
    where
      three : {a b c a' b' c' : ℕ} → a ≡ a' → b ≡ b' → c ≡ c' → over a b c ≡ over a' b' c'
      three e f g = cc

  gen_enough : (n i : ℕ) → i ≤ n → gen n i ≡ gen i i
  gen_enough zero zero h = refl
  gen_enough zero (suc i) h = absurd (omega arith)
  gen_enough (suc n) zero h = refl
  gen_enough (suc n) (suc i) h = ap (λ (c : ℕ). over (generated i) (passed i) c) (gen_enough n i (omega arith))

-- the carry into bit i, from the lowest bit on
abbrev pub carry : ℕ → ℕ → ℕ → ℕ → ℕ
carry x y c zero = c
carry x y c (suc i) = carry (x / 2) (y / 2) (over (min (x % 2) (y % 2)) ((x % 2 + y % 2) % 2) c) i

half : (x y c : ℕ) → c < 2 → (x + y + c) / 2 ≡ x / 2 + y / 2 + over (min (x % 2) (y % 2)) ((x % 2 + y % 2) % 2) c
half x y c h = omega arith

-- each bit of a sum
pub sum_bit : (i x y c : ℕ) → c < 2 → bit_at (x + y + c) i ≡ ((bit_at x i + bit_at y i) % 2 + carry x y c i) % 2
sum_bit zero x y c h = bit_at_lowest (x + y + c) ∙ lowest ∙ ap₂ (λ (a b : ℕ). ((a + b) % 2 + c) % 2) (sym (bit_at_lowest x)) (sym (bit_at_lowest y))
  where
    lowest : (x + y + c) % 2 ≡ ((x % 2 + y % 2) % 2 + c) % 2
    lowest = omega arith
sum_bit (suc i) x y c h =
    bit_at-suc (x + y + c) i ∙ ap (λ (z : ℕ). bit_at z i) (half x y c h) ∙ sum_bit i (x / 2) (y / 2) _ (mod-lt _ (lit< tt))
    ∙ ap₂ (λ (a b : ℕ). ((a + b) % 2 + carry x y c (suc i)) % 2) (sym (bit_at-suc x i)) (sym (bit_at-suc y i))

-- what a sum has beyond the bits of its two words
carry_out : (i x y c : ℕ) → x < 2 ^ i → y < 2 ^ i → c < 2 → carry x y c i ≡ (x + y + c) / 2 ^ i
carry_out zero x y c hx hy hc = none x y c hx hy
  where
    none : (x y c : ℕ) → x < 1 → y < 1 → c ≡ (x + y + c) / 1
    none x y c hx hy = omega arith
carry_out (suc i) x y c hx hy hc =
    let p : 2 ^ suc i ≡ 2 ^ i * 2 = pow-suc 2 i in
    carry_out i (x / 2) (y / 2) _ (omega arith) (omega arith) (mod-lt _ (lit< tt))
    ∙ ap (λ (z : ℕ). z / 2 ^ i) (sym (half x y c hc)) ∙ div-div-eq-div-mul (x + y + c) 2 (2 ^ i) ∙ ap (λ (z : ℕ). (x + y + c) / z) (turned i)
  where
    turned : (i : ℕ) → 2 * 2 ^ i ≡ 2 ^ suc i
    turned i = omega (arith, pow-suc 2 i)

carry_last : (i x y c : ℕ) → carry x y c (suc i) ≡ over (generated x y i) (passed x y i) (carry x y c i)
carry_last zero x y c = ap₂ (λ (a b : ℕ). over (min a b) ((a + b) % 2) c) (sym (bit_at_lowest x)) (sym (bit_at_lowest y))
carry_last (suc i) x y c =
    carry_last i (x / 2) (y / 2) (over (min (x % 2) (y % 2)) ((x % 2 + y % 2) % 2) c)
    ∙ ap₂ (λ (a b : ℕ). over (min a b) ((a + b) % 2) (carry x y c (suc i))) (sym (bit_at-suc x i)) (sym (bit_at-suc y i))

carry_is : (x y i : ℕ) → gen x y i i ≡ carry x y 0 i
carry_is x y zero = refl
carry_is x y (suc i) = ap (λ (c : ℕ). over (generated x y i) (passed x y i) c) (carry_is x y i) ∙ sym (carry_last i x y 0)

-- the circuit has the carry out of each bit
pub carries_bit : (x y i : ℕ) → i < 32 → bit_at (carries x y) i ≡ carry x y 0 (suc i)
unfolding carries
carries_bit x y i h = last.generate i h ∙ gen_enough x y 32 (suc i) (omega arith) ∙ carry_is x y (suc i)
  where
    groups : Groups x y 16 (doubled 8 (doubled 4 (doubled 2 (doubled 1 (single x y)))))
    groups = doubled_bits x y 8 _ (lit< tt) (doubled_bits x y 4 _ (lit< tt) (doubled_bits x y 2 _ (lit< tt) (doubled_bits x y 1 _ (lit< tt) (single_bits x y))))

    last : Groups x y 32 (doubled 16 (doubled 8 (doubled 4 (doubled 2 (doubled 1 (single x y))))))
    last = doubled_bits x y 16 _ (lit< tt) groups

-- a word and another and what it is shifted by
doubled_word : (s : ℕ) (m : Lookahead) → m.generate < 2 ^ 32 → m.propagate < 2 ^ 32 → ((doubled s m).generate < 2 ^ 32) × ((doubled s m).propagate < 2 ^ 32)
doubled_word s m g p =
    (xor_lt 32 m.generate _ g (and_lt 32 m.propagate (shl m.generate s) p (mod-lt _ (lit< tt))), and_lt 32 m.propagate (shl m.propagate s) p (mod-lt _ (lit< tt)))

pub carries_word : (x y : ℕ) → x < 2 ^ 32 → y < 2 ^ 32 → carries x y < 2 ^ 32
unfolding carries
carries_word x y hx hy =
    let a = doubled_word 1 (single x y) (and_lt 32 x y hx hy) (xor_lt 32 x y hx hy) in
    let b = doubled_word 2 _ a.0 a.1 in
    let c = doubled_word 4 _ b.0 b.1 in
    let d = doubled_word 8 _ c.0 c.1 in
    (doubled_word 16 _ d.0 d.1).0

-- the carry out of the highest bit of two short words is what their sum has beyond it
pub carries_top : (x y i : ℕ) → i < 32 → x < 2 ^ suc i → y < 2 ^ suc i → bit_at (carries x y) i ≡ (x + y) / 2 ^ suc i
carries_top x y i h hx hy =
    carries_bit x y i h ∙ carry_out (suc i) x y 0 hx hy (lit< tt) ∙ ap (λ (z : ℕ). z / 2 ^ suc i) (add-zero (x + y))
