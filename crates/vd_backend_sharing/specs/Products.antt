-- The product of two shared words by one dealt item: each host tells the other its parts of the words masked by its part of the
-- item, and from the two masked words each reckons its part of the product.
use Rattle.std.specs.Prelude.{◌≡◌, ℕ, bit_and, bit_xor}
use Rattle.vd_tape.specs.declared.deal_items.items.Triple.{Triple}
use Rattle.vd_tape.specs.Identities.{MeetsAnd, MeetsMul}
use Rattle.vd_tape.specs.Validity.{AreTripleWords}
use Rattle.vd_backend_sharing.specs.Sharing.{plus, minus, times}

-- one host's parts of the two words, and of the item
pub record Side : Type 0 where
  pub x : ℕ
  pub y : ℕ
  pub item : Triple

-- ---- by exclusive or

-- the masked words, as a host has them that joins its own to what it was told
abbrev pub bits_d : (own other : Side) → ℕ
bits_d own other = bit_xor (bit_xor own.x own.item.a) (bit_xor other.x other.item.a)

abbrev pub bits_e : (own other : Side) → ℕ
bits_e own other = bit_xor (bit_xor own.y own.item.b) (bit_xor other.y other.item.b)

-- d & b ^ c ^ e & a
abbrev pub bits_part : (own other : Side) → ℕ
bits_part own other =
    bit_xor (bit_xor (bit_and (bits_d own other) own.item.b) own.item.c) (bit_and (bits_e own other) own.item.a)

-- the first host's has d & e besides
abbrev pub bits_first_part : (own other : Side) → ℕ
bits_first_part own other = bit_xor (bits_part own other) (bit_and (bits_d own other) (bits_e own other))

abbrev pub BitItemsGiveProducts : Type 0
BitItemsGiveProducts = (m n : Side) → MeetsAnd m.item n.item
    → bit_xor (bits_first_part m n) (bits_part n m) ≡ bit_and (bit_xor m.x n.x) (bit_xor m.y n.y)

-- ---- by sums

abbrev pub words_d : (own other : Side) → ℕ
words_d own other = plus (minus own.x own.item.a) (minus other.x other.item.a)

abbrev pub words_e : (own other : Side) → ℕ
words_e own other = plus (minus own.y own.item.b) (minus other.y other.item.b)

-- d * b + c + e * a
abbrev pub words_part : (own other : Side) → ℕ
words_part own other = plus (plus (times (words_d own other) own.item.b) own.item.c) (times (words_e own other) own.item.a)

-- the first host's has d * e besides
abbrev pub words_first_part : (own other : Side) → ℕ
words_first_part own other = plus (words_part own other) (times (words_d own other) (words_e own other))

abbrev pub WordItemsGiveProducts : Type 0
WordItemsGiveProducts = (m n : Side) → AreTripleWords m.item → AreTripleWords n.item → MeetsMul m.item n.item
    → plus (words_first_part m n) (words_part n m) ≡ times (plus m.x n.x) (plus m.y n.y)
