-- Bounds on registers: how they widen, and what a call makes at one host and at more.
use Rattle.std.proofs.Common.{ℕ, zero, suc, ◌+◌, ◌<◌, ◌≤◌, List, [], ◌∷◌, ◌++◌, slice_index, slice_set, arith}
use Rattle.std.specs.Prelude.{All}
use Rattle.vd_base.specs.declared.ids.HostId.{HostId}
use Rattle.vd_execution.specs.declared.instructions.Reg.{Reg}
use Rattle.vd_execution.specs.Gadgets.{Gadget}
use Rattle.vd_duet.specs.Builder.{taken}
use Rattle.vd_duet.specs.Calls.{Places, Made}
use Rattle.vd_duet.specs.Laws.{Each, at_host}
use Rattle.vd_projection.specs.Fits.{IsLow, PacketFits, GadgetFits, PlacesFit, PartsFit, WordMade, Room}

-- ---- the next free registers

set_low : (xs : List ℕ) (i v k b : ℕ) → v ≤ b → slice_index xs k ≤ b → slice_index (slice_set xs i v) k ≤ b
set_low [] i v k b le e = e
set_low (x ∷ xs) zero v zero b le e = le
set_low (x ∷ xs) zero v (suc k) b le e = e
set_low (x ∷ xs) (suc i) v zero b le e = e
set_low (x ∷ xs) (suc i) v (suc k) b le e = set_low xs i v k b le e

pub low_more : (n m : ℕ) (next : List ℕ) → n ≤ m → IsLow n next → IsLow m next
low_more n m next le low h = let p = low h in omega (arith, p, le)

pub taken_low : (h : HostId) (k n : ℕ) (next : List ℕ) → IsLow n next → IsLow (n + k) (taken h k next)
taken_low h k n next low j = let p = low h.0 in let q = low j in set_low next h.0 (slice_index next h.0 + k) j (n + k) (omega (arith, p)) (omega (arith, q))

-- a part of the room
pub roomy : (bound k m n : ℕ) (next : List ℕ) → k ≤ 380 → Room bound m n next → (m + k < n) × (m + k ≤ bound)
roomy bound k m n next le room =
    let more : m + 384 ≤ n = room.more in
    let within : n ≤ bound = room.within in
    (omega (arith, le, more), omega (arith, le, more, within))

-- ---- packets and gadgets

pub one_fits : (bound : ℕ) (r : Reg) → r.0 < bound → PacketFits bound (r ∷ [])
one_fits bound r lt = (each, omega arith, omega arith)
  where
    each : All (λ (q : Reg). q.0 < bound) (r ∷ [])
    each zero d le = lt
    each (suc k) d le = absurd (omega (arith, le))

pub two_fit : (bound : ℕ) (r s : Reg) → r.0 < bound → s.0 < bound → PacketFits bound (r ∷ s ∷ [])
two_fit bound r s p q = (each, omega arith, omega arith)
  where
    each : All (λ (z : Reg). z.0 < bound) (r ∷ s ∷ [])
    each zero d le = p
    each (suc zero) d le = q
    each (suc (suc k)) d le = absurd (omega (arith, le))

pub gadgets_fit : (hosts bound : ℕ) (xs ys : List Gadget) → Each (GadgetFits hosts bound) xs → Each (GadgetFits hosts bound) ys → Each (GadgetFits hosts bound) (xs ++ ys)
gadgets_fit hosts bound [] ys f g = g
gadgets_fit hosts bound (x ∷ xs) ys f g = (f.0, gadgets_fit hosts bound xs ys f.1 g)

-- ---- places

pub places_more : (hosts size n m : ℕ) (x : Places) → n ≤ m → PlacesFit hosts size n x → PlacesFit hosts size m x
places_more hosts size n m [] le f = tt
places_more hosts size n m (q ∷ x) le f = ((f.0.0, let p = f.0.1 in omega (arith, p, le)), places_more hosts size n m x le f.1)

-- registers that are at most m are below a greater number
places_under : (hosts m n : ℕ) (x : Places) → m < n → PlacesFit hosts 0 m x → PlacesFit hosts 1 n x
places_under hosts m n [] lt f = tt
places_under hosts m n (q ∷ x) lt f = ((f.0.0, let p = f.0.1 in omega (arith, p, lt)), places_under hosts m n x lt f.1)

pub all_places : (hosts m : ℕ) (xs : List Places) → Each (PartsFit hosts 0 m) xs → Each (PlacesFit hosts 0 m) xs
all_places hosts m [] f = tt
all_places hosts m (x ∷ xs) f = (f.0.at, all_places hosts m xs f.1)

-- ---- what is made at one host, and at more

-- a register with so many registers from there on
pub record RegFits (hosts bound size n : ℕ) (made : Made Reg) : Type 0 where
  pub low : IsLow n made.next
  pub given : made.given.0 + size ≤ n
  pub gadgets : Each (GadgetFits hosts bound) made.gadgets

pub record PlacesMade (hosts bound size n : ℕ) (made : Made Places) : Type 0 where
  pub low : IsLow n made.next
  pub given : PlacesFit hosts size n made.given
  pub gadgets : Each (GadgetFits hosts bound) made.gadgets

pub host_word : (hosts bound : ℕ) (h : HostId) (made : Made Reg) (n : ℕ) → h.0 < hosts → RegFits hosts bound 1 n made → WordMade hosts bound n (at_host h made)
host_word hosts bound h made n here f = record { low = f.low; given = record { few = omega arith; at = ((here, f.given), tt) }; gadgets = f.gadgets }

-- parts that stay where they are
pub stays : (hosts bound : ℕ) (x : Places) (m n : ℕ) (next : List ℕ) → m < n → IsLow m next → PartsFit hosts 0 m x
    → WordMade hosts bound n (record { given = x; gadgets = []; next = next })
stays hosts bound x m n next lt low f = record {
  low = low_more m n next (omega (arith, lt)) low;
  given = record { few = f.few; at = places_under hosts m n x lt f.at };
  gadgets = tt;
}
