-- The identities that the parts of two hosts keep, item by item, and list by list.
use Rattle.std.specs.Prelude.{◌≡◌, ℕ, List, slice_get, unwrap_or}
use Rattle.vd_base.specs.Identities.{mul_left, mul_right, and_left, and_right, pair_left, pair_right}
use Rattle.vd_tape.specs.declared.deal_items.items.Triple.{Triple}
use Rattle.vd_tape.specs.declared.deal_items.items.PairItem.{PairItem}

-- ---- of the parts of two hosts

abbrev pub mul_sides : Triple → Triple → ℕ × ℕ
mul_sides p q = (mul_left p.a q.a p.b q.b, mul_right p.c q.c)

abbrev pub and_sides : Triple → Triple → ℕ × ℕ
and_sides p q = (and_left p.a q.a p.b q.b, and_right p.c q.c)

abbrev pub pair_sides : PairItem → PairItem → ℕ × ℕ
pair_sides p q = (pair_left p.s q.s, pair_right p.x q.x)

abbrev pub AreEqual : ℕ × ℕ → Type 0
AreEqual sides = sides.0 ≡ sides.1

abbrev pub MeetsMul : Triple → Triple → Type 0
MeetsMul p q = AreEqual (mul_sides p q)

abbrev pub MeetsAnd : Triple → Triple → Type 0
MeetsAnd p q = AreEqual (and_sides p q)

abbrev pub MeetsPair : PairItem → PairItem → Type 0
MeetsPair p q = AreEqual (pair_sides p q)

-- ---- of lists, each followed by zero items

abbrev pub zero_triple : Triple
zero_triple = record { a = 0; b = 0; c = 0 }

abbrev pub zero_pair : PairItem
zero_pair = record { s = 0; x = 0 }

abbrev pub triple_at : List Triple → ℕ → Triple
triple_at items i = unwrap_or (slice_get items i) zero_triple

abbrev pub pair_at : List PairItem → ℕ → PairItem
pair_at items i = unwrap_or (slice_get items i) zero_pair
