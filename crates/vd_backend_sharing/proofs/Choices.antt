-- Choices by a mask.
use Rattle.std.proofs.Common.{◌≡◌, ℕ, zero, suc, ◌+◌, ◌-◌, ◌%◌, ◌^◌, ◌<◌, min, max, Bool, true, false, nat_eq, nat_lt, if◌then◌else◌, refl, ap, ◌∙◌, arith, bit_and, bit_xor, lit<}
use Rattle.std.proofs.Math.Nat.{mod-lt, mod-eq_of_lt}
use Rattle.std.specs.Int.Bits.{xor_assoc, xor_self, xor_zero_r, and_zero_l}
use Rattle.std.proofs.lemmas.Bool.Decides.{nat_tests}
use Rattle.std.proofs.lemmas.Nat.{and_mask, and_comm, xor_comm, xor_lt}
use Rattle.vd_base.specs.Operations.{truth_word}
use Rattle.vd_backend_sharing.specs.Circuits.{mask_of, mux_of, min_of, max_of, lt_of}
use Rattle.vd_backend_sharing.proofs.Comparisons.{lt_is}

lowest : (c : ℕ) → bit_and 1 c ≡ c % 2
lowest c = and_comm 1 c ∙ and_mask c 1

-- all bits are this bit
abbrev pub spread : ℕ → ℕ
spread b = (0 + (2 ^ 32 - b)) % 2 ^ 32

pub mask_is : (c : ℕ) → mask_of c ≡ spread (c % 2)
mask_is c = ap spread (lowest c)

whole : (d : ℕ) → d < 2 ^ 32 → bit_and 4294967295 d ≡ d
whole d h = and_comm 4294967295 d ∙ and_mask d 32 ∙ mod-eq_of_lt h

twice : (x y : ℕ) → bit_xor y (bit_xor x y) ≡ x
twice x y = xor_comm y (bit_xor x y) ∙ xor_assoc x y y ∙ ap (bit_xor x) (xor_self y) ∙ xor_zero_r x

by_bit : (b x y : ℕ) → b < 2 → x < 2 ^ 32 → y < 2 ^ 32 → bit_xor y (bit_and (spread b) (bit_xor x y)) ≡ (if nat_eq b 1 then x else y)
by_bit zero x y h hx hy = ap (bit_xor y) (and_zero_l (bit_xor x y)) ∙ xor_zero_r y
by_bit (suc zero) x y h hx hy = ap (bit_xor y) (whole (bit_xor x y) (xor_lt 32 x y hx hy)) ∙ twice x y
by_bit (suc (suc b)) x y h hx hy = absurd (omega arith)

pub mux_is : (c x y : ℕ) → x < 2 ^ 32 → y < 2 ^ 32 → mux_of c x y ≡ (if nat_eq (c % 2) 1 then x else y)
mux_is c x y hx hy = ap (λ (z : ℕ). bit_xor y (bit_and z (bit_xor x y))) (mask_is c) ∙ by_bit (c % 2) x y (mod-lt c (lit< tt)) hx hy

-- a choice by a truth value
by_test : (b : Bool) (x y : ℕ) → (if nat_eq (truth_word b % 2) 1 then x else y) ≡ (if b then x else y)
by_test true x y = refl
by_test false x y = refl

chosen : (c x y : ℕ) (b : Bool) → c ≡ truth_word b → x < 2 ^ 32 → y < 2 ^ 32 → mux_of c x y ≡ (if b then x else y)
chosen c x y b e hx hy = mux_is c x y hx hy ∙ ap (λ (z : ℕ). if nat_eq (z % 2) 1 then x else y) e ∙ by_test b x y

pub min_is : (x y : ℕ) → x < 2 ^ 32 → y < 2 ^ 32 → min_of x y ≡ min x y
min_is x y hx hy = chosen (lt_of x y) x y (nat_lt x y) (lt_is x y hx hy) hx hy ∙ smaller x y
  where
    smaller : (x y : ℕ) → (if nat_lt x y then x else y) ≡ min x y
    smaller x y = grind (arith, nat_tests)

pub max_is : (x y : ℕ) → x < 2 ^ 32 → y < 2 ^ 32 → max_of x y ≡ max x y
max_is x y hx hy = chosen (lt_of x y) y x (nat_lt x y) (lt_is x y hx hy) hy hx ∙ larger x y
  where
    larger : (x y : ℕ) → (if nat_lt x y then y else x) ≡ max x y
    larger x y = grind (arith, nat_tests)
