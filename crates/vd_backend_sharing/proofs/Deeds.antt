-- Gadgets of two hosts on their fresh registers, with operands named by place: which gadgets they are, and which words they leave.
use Rattle.std.proofs.Common.{ℕ, zero, suc, ◌+◌, ◌^◌, ◌<◌, Bool, true, ◌&&◌, nat_lt, List, [], ◌∷◌, ◌++◌, length}
use Rattle.vd_base.specs.declared.ids.HostId.{HostId}
use Rattle.vd_base.specs.declared.operations.Op.TheVariants as op
use Rattle.vd_base.specs.Operations.{operation}
use Rattle.vd_execution.specs.declared.instructions.Reg.{Reg}
use Rattle.vd_execution.specs.declared.instructions.Binary.{Binary}
use Rattle.vd_execution.specs.declared.instructions.Action.TheVariants as action
use Rattle.vd_execution.specs.Registers.{applied, nth}
use Rattle.vd_execution.specs.Step.{OwnWords, Pairs}
use Rattle.vd_execution.specs.Joint.{Hosts}
use Rattle.vd_execution.specs.World.{Tape}
use Rattle.vd_execution.specs.Gadgets.{Sharing, BySums, ByXors, Masking, Pairing, Gadget, Alone, Shares, BothShare, Opens, Masked, Paired, source_of}
use Rattle.vd_execution.specs.Text.{register}
use Rattle.vd_duet.specs.Calls.{Places}
use Rattle.vd_backend_sharing.specs.Sharings.{hidden}

pub data Side : Type 0 where
  First : Side
  Second : Side

abbrev pub other : Side → Side
other First = Second
other Second = First

abbrev pub sides : {A : Type 0} → A → A → Side → A
sides x y First = x
sides x y Second = y

-- the register of an operand, by its number among the operands at its host; or the i-th fresh register
pub data Place : Type 0 where
  Old : ℕ → Place
  New : ℕ → Place

-- two hosts, the registers of their operands, and their first fresh registers
pub record Pair : Type 0 where
  pub host : Side → HostId
  pub operands : Side → List Reg
  pub mark : Side → ℕ

abbrev pub fresh_register : ℕ → ℕ → Reg
fresh_register n zero = register n
fresh_register n (suc i) = register (n + suc i)

abbrev pub nth_register : List Reg → ℕ → Reg
nth_register [] i = register 0
nth_register (r ∷ rs) zero = r
nth_register (r ∷ rs) (suc i) = nth_register rs i

abbrev pub register_at : Pair → Side → Place → Reg
register_at p s (Old j) = nth_register (p.operands s) j
register_at p s (New i) = fresh_register (p.mark s) i

abbrev pub places_of : Pair → List (Side × Place) → Places
places_of p [] = []
places_of p (q ∷ qs) = (p.host q.0, register_at p q.0 q.1) ∷ places_of p qs

-- what one of the hosts or both do. Each word that comes in takes the next fresh register of its host
pub data Deed : Type 0 where
  Number : (side : Side) (number : ℕ) → Deed
  Copied : (side : Side) (x : Place) → Deed
  Applied : (side : Side) (o : Binary) (x y : Place) → Deed
  ShiftedLeft : (side : Side) (x : Place) (bits : ℕ) → Deed
  ShiftedRight : (side : Side) (x : Place) (bits : ℕ) → Deed
  -- a host takes an own word and gives it to the other
  GivenAway : (side : Side) → Deed
  -- both take an own word and give it to each other
  BothGive : Deed
  -- a host opens a part to the other
  Opened : (sharing : Sharing) (side : Side) (part own_part : Place) → Deed
  -- the head of a product of x and y: x and y at the first host, and at the second
  Multiplied : (sharing : Sharing) (x y other_x other_y : Place) → Deed
  -- both take a pair, for a word of which these are the parts
  Drawn : (word other_word : Place) → Deed

-- ---- its gadgets

-- the i-th register that comes after so many fresh ones
abbrev pub next_register : Pair → (Side → ℕ) → Side → ℕ → Reg
next_register p c s i = fresh_register (p.mark s) (c s + i)

abbrev pub masking_of : Pair → (Side → ℕ) → Side → Place → Place → Masking
masking_of p c s x y = record {
  host = p.host s;
  x = register_at p s x;
  y = register_at p s y;
  a = next_register p c s 0;
  b = next_register p c s 1;
  c = next_register p c s 2;
  d = next_register p c s 3;
  e = next_register p c s 4;
  heard_d = next_register p c s 5;
  heard_e = next_register p c s 6;
}

abbrev pub pairing_of : Pair → (Side → ℕ) → Side → Place → Pairing
pairing_of p c s x =
    record { host = p.host s; word = register_at p s x; s = next_register p c s 0; x = next_register p c s 1 }

abbrev pub gadget_of : Pair → (Side → ℕ) → Deed → Gadget
gadget_of p c (Number s k) = Alone (p.host s) (action.Const (next_register p c s 0) k)
gadget_of p c (Copied s x) = Alone (p.host s) (action.Copy (next_register p c s 0) (register_at p s x))
gadget_of p c (Applied s o x y) = Alone (p.host s) (action.Apply o (next_register p c s 0) (register_at p s x) (register_at p s y))
gadget_of p c (ShiftedLeft s x k) = Alone (p.host s) (action.Shl (next_register p c s 0) (register_at p s x) k)
gadget_of p c (ShiftedRight s x k) = Alone (p.host s) (action.Shr (next_register p c s 0) (register_at p s x) k)
gadget_of p c (GivenAway s) = Shares (p.host s) (next_register p c s 0) (p.host (other s)) (next_register p c (other s) 0)
gadget_of p c BothGive =
    BothShare (p.host First) (next_register p c First 0) (next_register p c First 1) (p.host Second) (next_register p c Second 0) (next_register p c Second 1)
gadget_of p c (Opened sharing s x y) =
    Opens sharing (p.host s) (register_at p s x) (p.host (other s)) (register_at p (other s) y) (next_register p c (other s) 0)
gadget_of p c (Multiplied sharing x y x' y') = Masked sharing (masking_of p c First x y) (masking_of p c Second x' y')
gadget_of p c (Drawn x x') = Paired (pairing_of p c First x) (pairing_of p c Second x')

abbrev pub one_at : Side → Side → ℕ
one_at First First = 1
one_at First Second = 0
one_at Second First = 0
one_at Second Second = 1

-- how many fresh registers a host takes
abbrev pub takes : Deed → Side → ℕ
takes (Number s k) t = one_at s t
takes (Copied s x) t = one_at s t
takes (Applied s o x y) t = one_at s t
takes (ShiftedLeft s x k) t = one_at s t
takes (ShiftedRight s x k) t = one_at s t
takes (GivenAway s) t = 1
takes BothGive t = 2
takes (Opened sharing s x y) t = one_at (other s) t
takes (Multiplied sharing x y x' y') t = 7
takes (Drawn x x') t = 2

abbrev pub further : (Side → ℕ) → Deed → Side → ℕ
further c d s = c s + takes d s

abbrev pub gadgets_of : Pair → (Side → ℕ) → List Deed → List Gadget
gadgets_of p c [] = []
gadgets_of p c (d ∷ ds) = gadget_of p c d ∷ gadgets_of p (further c d) ds

abbrev pub count_all : (Side → ℕ) → List Deed → Side → ℕ
count_all c [] = c
count_all c (d ∷ ds) = count_all (further c d) ds

-- ---- which places are known

abbrev pub is_known : Pair → (Side → ℕ) → Side → Place → Bool
is_known p c s (Old j) = nat_lt j (length (p.operands s))
is_known p c s (New i) = nat_lt i (c s)

abbrev pub deed_is_known : Pair → (Side → ℕ) → Deed → Bool
deed_is_known p c (Number s k) = true
deed_is_known p c (Copied s x) = is_known p c s x
deed_is_known p c (Applied s o x y) = is_known p c s x && is_known p c s y
deed_is_known p c (ShiftedLeft s x k) = is_known p c s x
deed_is_known p c (ShiftedRight s x k) = is_known p c s x
deed_is_known p c (GivenAway s) = true
deed_is_known p c BothGive = true
deed_is_known p c (Opened sharing s x y) = is_known p c s x
deed_is_known p c (Multiplied sharing x y x' y') = (is_known p c First x && is_known p c First y) && (is_known p c Second x' && is_known p c Second y')
deed_is_known p c (Drawn x x') = is_known p c First x && is_known p c Second x'

abbrev pub all_known : Pair → (Side → ℕ) → List Deed → Bool
all_known p c [] = true
all_known p c (d ∷ ds) = deed_is_known p c d && all_known p (further c d) ds

abbrev pub places_known : Pair → (Side → ℕ) → List (Side × Place) → Bool
places_known p c [] = true
places_known p c (q ∷ qs) = is_known p c q.0 q.1 && places_known p c qs

-- numbers are words
abbrev pub NumberIsWord : Deed → Type 0
NumberIsWord (Number s k) = k < 2 ^ 32
NumberIsWord d = Unit {0}

abbrev pub NumbersAreWords : List Deed → Type 0
NumbersAreWords [] = Unit {0}
NumbersAreWords (d ∷ ds) = NumberIsWord d × NumbersAreWords ds

-- ---- which words they leave

-- the words in the fresh registers so far, and how many own words and items were taken
pub record Left : Type 0 where
  pub first : List ℕ
  pub second : List ℕ
  pub owns : Side → ℕ
  pub items : Sharing → ℕ
  pub pairs : ℕ

abbrev pub words_of : Left → Side → List ℕ
words_of m First = m.first
words_of m Second = m.second

abbrev pub with_words : Left → Side → List ℕ → Left
with_words m First ws = record m { first = m.first ++ ws }
with_words m Second ws = record m { second = m.second ++ ws }

abbrev pub nothing_left : Left
nothing_left = record { first = []; second = []; owns = λ s. 0; items = λ s. 0; pairs = 0 }

abbrev pub no_count : Side → ℕ
no_count s = 0

abbrev pub bumped : Sharing → (Sharing → ℕ) → Sharing → ℕ
bumped BySums f BySums = suc (f BySums)
bumped BySums f ByXors = f ByXors
bumped ByXors f BySums = f BySums
bumped ByXors f ByXors = suc (f ByXors)

module _ (t : Tape) (p : Pair) (w : Hosts) where
  abbrev pub own_word : Left → Side → ℕ
  own_word m s = nth (t (p.host s).0 OwnWords ((w (p.host s).0).cursors OwnWords + m.owns s)) 0

  -- the words of a host's part of the next item, which both hosts find at one place
  abbrev pub item_word : Left → Sharing → Side → ℕ → ℕ
  item_word m sharing s i =
      nth (t (p.host s).0 (source_of sharing (p.host (other s)).0) ((w (p.host First).0).cursors (source_of sharing (p.host Second).0) + m.items sharing)) i

  -- the words of a host's part of the next pair
  abbrev pub pair_word : Left → Side → ℕ → ℕ
  pair_word m s i = nth (t (p.host s).0 (Pairs (p.host (other s)).0) ((w (p.host First).0).cursors (Pairs (p.host Second).0) + m.pairs)) i

  abbrev pub value : Left → Side → Place → ℕ
  value m s (Old j) = (w (p.host s).0).registers (nth_register (p.operands s) j).0
  value m s (New i) = nth (words_of m s) i

  -- an operand masked by a word of the item
  abbrev pub masked_word : Left → Sharing → Side → Place → ℕ → ℕ
  masked_word m sharing s x i = hidden sharing (value m s x) (item_word m sharing s i)

  abbrev pub masked_words : Left → Sharing → Side → Place → Place → List ℕ
  masked_words m sharing s x y = masked_word m sharing s x 0 ∷ masked_word m sharing s y 1 ∷ []

  abbrev pub item_words : Left → Sharing → Side → List ℕ
  item_words m sharing s = item_word m sharing s 0 ∷ item_word m sharing s 1 ∷ item_word m sharing s 2 ∷ []

  abbrev pub after : Left → Deed → Left
  after m (Number s k) = with_words m s (k ∷ [])
  after m (Copied s x) = with_words m s (value m s x ∷ [])
  after m (Applied s o x y) = with_words m s (applied o (value m s x) (value m s y) ∷ [])
  after m (ShiftedLeft s x k) = with_words m s (operation (op.Shl k) (value m s x) 0 0 ∷ [])
  after m (ShiftedRight s x k) = with_words m s (operation (op.Shr k) (value m s x) 0 0 ∷ [])
  after m (GivenAway s) =
      record (with_words (with_words m s (own_word m s ∷ [])) (other s) (own_word m s ∷ [])) { owns = λ r. m.owns r + one_at s r }
  after m BothGive = record {
    first = m.first ++ (own_word m First ∷ own_word m Second ∷ []);
    second = m.second ++ (own_word m Second ∷ own_word m First ∷ []);
    owns = λ s. suc (m.owns s);
    items = m.items;
    pairs = m.pairs;
  }
  after m (Opened sharing s x y) = with_words m (other s) (value m s x ∷ [])
  after m (Multiplied sharing x y x' y') = record {
    first = m.first ++ (item_words m sharing First ++ (masked_words m sharing First x y ++ masked_words m sharing Second x' y'));
    second = m.second ++ (item_words m sharing Second ++ (masked_words m sharing Second x' y' ++ masked_words m sharing First x y));
    owns = m.owns;
    items = bumped sharing m.items;
    pairs = m.pairs;
  }
  after m (Drawn x x') = record {
    first = m.first ++ (pair_word m First 0 ∷ pair_word m First 1 ∷ []);
    second = m.second ++ (pair_word m Second 0 ∷ pair_word m Second 1 ∷ []);
    owns = m.owns;
    items = m.items;
    pairs = suc m.pairs;
  }

  abbrev pub after_all : Left → List Deed → Left
  after_all m [] = m
  after_all m (d ∷ ds) = after_all (after m d) ds
