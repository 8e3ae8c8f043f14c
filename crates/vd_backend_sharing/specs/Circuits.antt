-- Operations on words of 32 bits as circuits: of and, xor, shifts and constants alone, on whole words.
use Rattle.std.specs.Prelude.{ℕ, ◌+◌, ◌-◌, ◌*◌, ◌/◌, ◌%◌, ◌^◌, bit_and, bit_xor}

-- zeros come in
abbrev pub shl : (x amount : ℕ) → ℕ
shl x amount = (x * 2 ^ amount) % 2 ^ 32

abbrev pub shr : (x amount : ℕ) → ℕ
shr x amount = x / 2 ^ amount

abbrev pub not_of : ℕ → ℕ
not_of x = bit_xor x 4294967295

abbrev pub flip_of : ℕ → ℕ
flip_of x = bit_xor x 1

abbrev pub or_of : (x y : ℕ) → ℕ
or_of x y = bit_xor (bit_xor (bit_and x y) x) y

-- ---- sums, by carries that are looked ahead

-- Of each group of so many bits, by its highest bit: whether it generates a carry out of that bit, and whether it propagates one
-- that comes into its lowest bit.
pub record Lookahead : Type 0 where
  pub generate : ℕ
  pub propagate : ℕ

-- groups of one bit
abbrev pub single : (x y : ℕ) → Lookahead
single x y = record { generate = bit_and x y; propagate = bit_xor x y }

-- groups of twice as many bits
abbrev pub doubled : (bits : ℕ) → Lookahead → Lookahead
doubled bits g = record {
  generate = bit_xor g.generate (bit_and g.propagate (shl g.generate bits));
  propagate = bit_and g.propagate (shl g.propagate bits);
}

-- the carry out of each bit: what groups of 32 bits generate
unfoldable pub carries : (x y : ℕ) → ℕ
carries x y =
    let g = doubled 8 (doubled 4 (doubled 2 (doubled 1 (single x y)))) in
    bit_xor g.generate (bit_and g.propagate (shl g.generate 16))

abbrev pub add_of : (x y : ℕ) → ℕ
add_of x y = bit_xor (bit_xor x y) (shl (carries x y) 1)

abbrev pub sub_of : (x y : ℕ) → ℕ
sub_of x y = not_of (add_of (not_of x) y)

-- ---- comparisons

-- the carry out of the highest bit of y - x - 1
abbrev pub lt_of : (x y : ℕ) → ℕ
lt_of x y = shr (carries (not_of x) y) 31

abbrev pub le_of : (x y : ℕ) → ℕ
le_of x y = flip_of (lt_of y x)

-- and of each bit and the one so many bits higher
abbrev pub narrowed : (amount x : ℕ) → ℕ
narrowed amount x = bit_and x (shr x amount)

-- the lowest bit tells whether all bits are 1
unfoldable pub all_of : ℕ → ℕ
all_of x = narrowed 1 (narrowed 2 (narrowed 4 (narrowed 8 (narrowed 16 x))))

abbrev pub eq_of : (x y : ℕ) → ℕ
eq_of x y = bit_and (all_of (not_of (bit_xor x y))) 1

abbrev pub ne_of : (x y : ℕ) → ℕ
ne_of x y = flip_of (eq_of x y)

-- ---- choices

-- all bits are the lowest bit
abbrev pub mask_of : ℕ → ℕ
mask_of c = (0 + (2 ^ 32 - bit_and 1 c)) % 2 ^ 32

abbrev pub mux_of : (c x y : ℕ) → ℕ
mux_of c x y = bit_xor y (bit_and (mask_of c) (bit_xor x y))

abbrev pub min_of : (x y : ℕ) → ℕ
min_of x y = mux_of (lt_of x y) x y

abbrev pub max_of : (x y : ℕ) → ℕ
max_of x y = mux_of (lt_of x y) y x
