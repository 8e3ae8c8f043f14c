-- Gadgets and plans one after the other, where pairs are read off.
use Rattle.std.proofs.Common.{◌≡◌, ℕ, zero, suc, List, [], ◌∷◌, ◌++◌, Option, Some, slice_get, refl, sym, ap, subst}
use Rattle.vd_execution.specs.Gadgets.{Pairing, Gadget, Alone, Tells, Shares, BothShare, Opens, Masked, Paired}
use Rattle.vd_execution.specs.Plans.{Plan, Ends, Then, Branch, Loop}
use Rattle.vd_split.specs.Joint.{acts_then, and_then}
use Rattle.vd_views.specs.Sides.{Each}
use Rattle.vd_views.specs.ReadOff.{alone_in, applied_in, masked_in, seen, IsReadOff, GadgetIsReadOff, front, PlanIsReadOff}

-- gadgets in a row, in which pairs are read off
abbrev pub AreReadOff : List Gadget → Type 0
AreReadOff [] = Unit {0}
AreReadOff (g ∷ gs) = GadgetIsReadOff g gs × AreReadOff gs

seen_more : {X : Type 0} (f : Gadget → Option X) (xs ys : List Gadget) (i : ℕ) (v : X) → seen f (slice_get xs i) ≡ Some v → seen f (slice_get (xs ++ ys) i) ≡ Some v
seen_more f [] ys i v e = cc
seen_more f (x ∷ xs) ys zero v e = e
seen_more f (x ∷ xs) ys (suc i) v e = seen_more f xs ys i v e

pair_more : (p q : Pairing) (xs ys : List Gadget) → IsReadOff p q xs → IsReadOff p q (xs ++ ys)
pair_more p q xs ys r = record {
  number = seen_more alone_in xs ys 0 p.host r.number;
  first = seen_more applied_in xs ys 1 (p.host, p.word) r.first;
  second = seen_more masked_in xs ys 2 (q.host, q.word) r.second;
}

-- more may follow
gadget_more : (g : Gadget) (xs ys : List Gadget) → GadgetIsReadOff g xs → GadgetIsReadOff g (xs ++ ys)
gadget_more (Alone h a) xs ys r = tt
gadget_more (Tells a said b heard) xs ys r = tt
gadget_more (Shares a x b heard) xs ys r = tt
gadget_more (BothShare a x heard b q heard_b) xs ys r = tt
gadget_more (Opens sharing a x b y heard) xs ys r = tt
gadget_more (Masked sharing m n) xs ys r = tt
gadget_more (Paired p q) xs ys r = pair_more p q xs ys r

pub read_append : (xs ys : List Gadget) → AreReadOff xs → AreReadOff ys → AreReadOff (xs ++ ys)
read_append [] ys a b = b
read_append (x ∷ xs) ys a b = (gadget_more x xs ys a.0, read_append xs ys a.1 b)

-- no pair is taken
abbrev pub IsUnpaired : Gadget → Type 0
IsUnpaired (Alone h a) = Unit {0}
IsUnpaired (Tells a said b heard) = Unit {0}
IsUnpaired (Shares a r b heard) = Unit {0}
IsUnpaired (BothShare a r heard b q heard_b) = Unit {0}
IsUnpaired (Opens sharing a x b y heard) = Unit {0}
IsUnpaired (Masked sharing m n) = Unit {0}
IsUnpaired (Paired p q) = ⊥

unpaired_read : (g : Gadget) (xs : List Gadget) → IsUnpaired g → GadgetIsReadOff g xs
unpaired_read (Alone h a) xs u = tt
unpaired_read (Tells a said b heard) xs u = tt
unpaired_read (Shares a r b heard) xs u = tt
unpaired_read (BothShare a r heard b q heard_b) xs u = tt
unpaired_read (Opens sharing a x b y heard) xs u = tt
unpaired_read (Masked sharing m n) xs u = tt
unpaired_read (Paired p q) xs u = absurd u

pub all_read : (gs : List Gadget) → Each IsUnpaired gs → AreReadOff gs
all_read [] e = tt
all_read (g ∷ gs) e = (unpaired_read g gs e.0, all_read gs e.1)

-- ---- plans

front_acts : (xs : List Gadget) (j : Plan Gadget) → front (acts_then xs j) ≡ xs ++ front j
front_acts [] j = refl
front_acts (x ∷ xs) j = ap (λ (l : List Gadget). x ∷ l) (front_acts xs j)

pub read_acts : (xs : List Gadget) (j : Plan Gadget) → AreReadOff xs → PlanIsReadOff j → PlanIsReadOff (acts_then xs j)
read_acts [] j a b = b
read_acts (x ∷ xs) j a b = (subst (λ (l : List Gadget). GadgetIsReadOff x l) (sym (front_acts xs j)) (gadget_more x xs (front j) a.0), read_acts xs j a.1 b)

-- what a plan begins with, and more
front_on : (a b : Plan Gadget) → (more : List Gadget) × (front (and_then a b) ≡ front a ++ more)
front_on Ends b = (front b, refl)
front_on (Then g r) b = let rest = front_on r b in (rest.0, ap (λ (l : List Gadget). g ∷ l) rest.1)
front_on (Branch ps x o r) b = ([], refl)
front_on (Loop ps n body r) b = ([], refl)

pub read_on : (a b : Plan Gadget) → PlanIsReadOff a → PlanIsReadOff b → PlanIsReadOff (and_then a b)
read_on Ends b p q = q
read_on (Then g r) b p q =
    let rest = front_on r b in
    (subst (λ (l : List Gadget). GadgetIsReadOff g l) (sym rest.1) (gadget_more g (front r) rest.0 p.0), read_on r b p.1 q)
read_on (Branch ps x o r) b p q = (p.0, (p.1.0, read_on r b p.1.1 q))
read_on (Loop ps n body r) b p q = (p.0, read_on r b p.1 q)
