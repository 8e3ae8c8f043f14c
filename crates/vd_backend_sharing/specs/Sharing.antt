-- Words that two hosts share: each has a part, and the parts together are the word, by exclusive or or by their sum.
use Rattle.std.specs.Prelude.{◌≡◌, ℕ, ◌+◌, ◌-◌, ◌*◌, ◌%◌, ◌^◌, bit_xor}
use Rattle.vd_base.specs.Words.{IsWord}

-- the second host has the two in the other order
abbrev pub IsOpenedAlike : (ℕ → ℕ → ℕ) → Type 0
IsOpenedAlike join = (p q : ℕ) → join q p ≡ join p q

-- a word whose other part is 0
abbrev pub IsKeptByZero : (ℕ → ℕ → ℕ) → Type 0
IsKeptByZero join = (x : ℕ) → IsWord x → join x 0 ≡ x

-- a host takes a random part off its word, and gives that to the other host; it is the first of the two, or the second
abbrev pub IsHidden : (join take_off : ℕ → ℕ → ℕ) → Type 0
IsHidden join take_off = (x r : ℕ) → IsWord x → IsWord r → (join (take_off x r) r ≡ x) × (join r (take_off x r) ≡ x)

-- ---- by exclusive or

-- done to each part, it is done to the word
abbrev pub IsDoneAtEach : (ℕ → ℕ) → Type 0
IsDoneAtEach f = (p q : ℕ) → bit_xor (f p) (f q) ≡ f (bit_xor p q)

-- done to the first part alone, it is done to the word
abbrev pub IsDoneAtFirst : (ℕ → ℕ) → Type 0
IsDoneAtFirst f = (p q : ℕ) → bit_xor (f p) q ≡ f (bit_xor p q)

-- of two words
abbrev pub XorsArePartByPart : Type 0
XorsArePartByPart = (x0 x1 y0 y1 : ℕ) → bit_xor (bit_xor x0 y0) (bit_xor x1 y1) ≡ bit_xor (bit_xor x0 x1) (bit_xor y0 y1)

-- ---- by sums, modulo 2^32

abbrev pub plus : (x y : ℕ) → ℕ
plus x y = (x + y) % 2 ^ 32

abbrev pub minus : (x y : ℕ) → ℕ
minus x y = (x + (2 ^ 32 - y)) % 2 ^ 32

abbrev pub times : (x y : ℕ) → ℕ
times x y = (x * y) % 2 ^ 32

abbrev pub SumsArePartByPart : Type 0
SumsArePartByPart = (x0 x1 y0 y1 : ℕ) → plus (plus x0 y0) (plus x1 y1) ≡ plus (plus x0 x1) (plus y0 y1)

abbrev pub DifferencesArePartByPart : Type 0
DifferencesArePartByPart =
    (x0 x1 y0 y1 : ℕ) → IsWord y0 → IsWord y1 → plus (minus x0 y0) (minus x1 y1) ≡ minus (plus x0 x1) (plus y0 y1)

abbrev pub MultiplesArePartByPart : Type 0
MultiplesArePartByPart = (factor x0 x1 : ℕ) → plus (times x0 factor) (times x1 factor) ≡ times (plus x0 x1) factor
