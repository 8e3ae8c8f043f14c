-- The two sides of the identities that the parts of two hosts keep, of words modulo 2^32.
use Rattle.std.specs.Prelude.{ℕ, ◌+◌, ◌*◌, ◌%◌, ◌^◌, bit_and, bit_xor}

-- (a0 + a1) * (b0 + b1) = c0 + c1
abbrev pub mul_left : (a0 a1 b0 b1 : ℕ) → ℕ
mul_left a0 a1 b0 b1 = ((a0 + a1) * (b0 + b1)) % 2 ^ 32

abbrev pub mul_right : (c0 c1 : ℕ) → ℕ
mul_right c0 c1 = (c0 + c1) % 2 ^ 32

-- (a0 ^ a1) & (b0 ^ b1) = c0 ^ c1
abbrev pub and_left : (a0 a1 b0 b1 : ℕ) → ℕ
and_left a0 a1 b0 b1 = bit_and (bit_xor a0 a1) (bit_xor b0 b1)

abbrev pub and_right : (c0 c1 : ℕ) → ℕ
and_right c0 c1 = bit_xor c0 c1

-- s0 + s1 = x0 ^ x1
abbrev pub pair_left : (s0 s1 : ℕ) → ℕ
pair_left s0 s1 = (s0 + s1) % 2 ^ 32

abbrev pub pair_right : (x0 x1 : ℕ) → ℕ
pair_right x0 x1 = bit_xor x0 x1
