-- How many acts gadgets have, and how many fresh registers each host takes, at most.
use Rattle.std.proofs.Common.{◌≡◌, ℕ, zero, suc, ◌+◌, ◌≤◌, List, [], ◌∷◌, ◌++◌, length, slice_index, slice_set, lit≤, arith}
use Rattle.vd_base.specs.declared.ids.HostId.{HostId}
use Rattle.vd_base.specs.declared.operations.Op.{Op}
use Rattle.vd_base.specs.declared.operations.Op.TheVariants as op
use Rattle.vd_execution.specs.declared.instructions.Reg.{Reg}
use Rattle.vd_execution.specs.Gadgets.{Gadget, acts_of_gadget}
use Rattle.vd_duet.specs.Builder.{taken}
use Rattle.vd_duet.specs.Calls.{Places, Made, Calls}

-- ---- acts

abbrev pub acts_in : List Gadget → ℕ
acts_in [] = 0
acts_in (g ∷ gs) = length (acts_of_gadget g) + acts_in gs

acts_both : (xs ys : List Gadget) → acts_in (xs ++ ys) ≡ acts_in xs + acts_in ys
acts_both [] ys = omega arith
acts_both (x ∷ xs) ys = next (length (acts_of_gadget x)) (acts_in (xs ++ ys)) (acts_in xs) (acts_in ys) (acts_both xs ys)
  where
    next : (n a b c : ℕ) → a ≡ b + c → n + a ≡ n + b + c
    next n a b c e = omega (arith, e)

-- ---- registers

-- each host has at most so many free registers less
abbrev pub Grows : ℕ → List ℕ → List ℕ → Type 0
Grows n next next' = (h : ℕ) → slice_index next' h ≤ slice_index next h + n

set_grows : (xs : List ℕ) (i k j : ℕ) → slice_index (slice_set xs i (slice_index xs i + k)) j ≤ slice_index xs j + k
set_grows [] i k j = omega arith
set_grows (x ∷ xs) zero k zero = omega arith
set_grows (x ∷ xs) zero k (suc j) = omega arith
set_grows (x ∷ xs) (suc i) k zero = omega arith
set_grows (x ∷ xs) (suc i) k (suc j) = set_grows xs i k j

pub one_grows : (h : HostId) (k : ℕ) (next : List ℕ) → Grows k next (taken h k next)
one_grows h k next j = set_grows next h.0 k j

-- of two hosts, which may be the same
pub both_grow : (a b : HostId) (i j : ℕ) (next : List ℕ) → Grows (i + j) next (taken b j (taken a i next))
both_grow a b i j next h = let p = one_grows a i next h in let q = one_grows b j (taken a i next) h in omega (arith, p, q)

-- ---- what gadgets and their registers take

pub record Takes (n : ℕ) (next : List ℕ) (gs : List Gadget) (last : List ℕ) : Type 0 where
  pub acts : acts_in gs ≤ n
  pub registers : Grows n next last

pub takes_none : (n : ℕ) (next : List ℕ) → Takes n next [] next
takes_none n next = record { acts = omega arith; registers = λ h. omega arith }

pub takes_more : (m n : ℕ) (next : List ℕ) (gs : List Gadget) (last : List ℕ) → m ≤ n → Takes m next gs last → Takes n next gs last
takes_more m n next gs last le f = record { acts = more (acts_in gs) f.acts; registers = λ h. (let p = f.registers h in omega (arith, p, le)) }
  where
    more : (k : ℕ) → k ≤ m → k ≤ n
    more k few = omega (arith, few, le)

pub takes_both : (m n : ℕ) (next : List ℕ) (xs : List Gadget) (middle : List ℕ) (ys : List Gadget) (last : List ℕ) → Takes m next xs middle → Takes n middle ys last
    → Takes (m + n) next (xs ++ ys) last
takes_both m n next xs middle ys last f g = record {
  acts = sums (acts_in (xs ++ ys)) (acts_in xs) (acts_in ys) (acts_both xs ys) f.acts g.acts;
  registers = λ h. (let p = f.registers h in let q = g.registers h in omega (arith, p, q));
}
  where
    sums : (k a b : ℕ) → k ≡ a + b → a ≤ m → b ≤ n → k ≤ m + n
    sums k a b e p q = omega (arith, e, p, q)

-- ---- calls

-- a call makes the parts of a word: no more than a commitment has
pub record WordTakes (n : ℕ) (next : List ℕ) (made : Made Places) : Type 0 where
  pub takes : Takes n next made.gadgets made.next
  pub given : length made.given ≤ 17

-- a call that computes nothing and converts nothing: copies that are told and compared are the dearest
abbrev pub most_plain : ℕ
most_plain = 34

-- an operation: the lesser or greater of two words that are shared is the dearest, but of three operands a choice
abbrev pub most_applied : Op → ℕ
most_applied op.Mux = 40
most_applied o = 360

-- a move: to words that are shared by sums is the dearest
abbrev pub most_moved : ℕ
most_moved = 327

-- each call of a back end
pub record CallsTake (c : Calls) : Type 0 where
  pub literal : (v : ℕ) (next : List ℕ) → WordTakes most_plain next (c.literal v next)
  pub share : (from : HostId) (x : Reg) (next : List ℕ) → WordTakes most_plain next (c.share from x next)
  pub adopt : (x : Places) (next : List ℕ) → WordTakes most_plain next (c.adopt x next)
  pub show : (x : Places) → length x ≤ 17 → (to : HostId) (next : List ℕ) → Takes most_plain next (c.show x to next).gadgets (c.show x to next).next
  pub show_all : (x : Places) → length x ≤ 17 → (next : List ℕ) → WordTakes most_plain next (c.show_all x next)
  pub keep : (x : Places) (next : List ℕ) → WordTakes most_plain next (c.keep x next)
  pub renew : (kept x : Places) → length kept ≤ 17 → acts_in (c.renew kept x) ≤ most_plain
  pub apply : (o : Op) (xs : List Places) (next : List ℕ) → WordTakes (most_applied o) next (c.apply o xs next)

-- room for what no circuit computes
pub some_room : (o : Op) → 28 ≤ most_applied o
some_room op.Add = lit≤ tt
some_room op.Sub = lit≤ tt
some_room op.Mul = lit≤ tt
some_room (op.Scale k) = lit≤ tt
some_room op.Div = lit≤ tt
some_room op.Rem = lit≤ tt
some_room op.And = lit≤ tt
some_room op.Or = lit≤ tt
some_room op.Xor = lit≤ tt
some_room op.Not = lit≤ tt
some_room op.Flip = lit≤ tt
some_room (op.Shl k) = lit≤ tt
some_room (op.Shr k) = lit≤ tt
some_room op.Eq = lit≤ tt
some_room op.Ne = lit≤ tt
some_room op.Lt = lit≤ tt
some_room op.Le = lit≤ tt
some_room op.Min = lit≤ tt
some_room op.Max = lit≤ tt
some_room op.Mux = lit≤ tt
