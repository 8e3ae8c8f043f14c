-- How many gadgets are made, how many lines they are, and that no shift and no array among them is too large.
use Rattle.std.proofs.Common.{◌≡◌, ℕ, ◌+◌, ◌<◌, ◌≤◌, List, [], ◌∷◌, ◌++◌, length, length-append, arith}
use Rattle.vd_base.specs.Limits.{most_cells}
use Rattle.vd_execution.specs.declared.instructions.Action.{Action}
use Rattle.vd_execution.specs.declared.instructions.Action.TheVariants as action
use Rattle.vd_execution.specs.declared.instructions.Act.{Act}
use Rattle.vd_execution.specs.declared.instructions.Act.TheVariants as act
use Rattle.vd_execution.specs.Gadgets.{acts_of_gadget, Gadget, Alone, Tells, Shares, BothShare, Opens, Masked, Paired}
use Rattle.vd_duet.specs.Laws.{Each}

-- a shift is below 32 bits, and an array has no more cells than are allowed
abbrev pub ActionIsSmall : Action → Type 0
ActionIsSmall (action.Shl r x k) = k < 32
ActionIsSmall (action.Shr r x k) = k < 32
ActionIsSmall (action.Zero r count) = count ≤ most_cells
ActionIsSmall (action.Get r x count i) = count ≤ most_cells
ActionIsSmall (action.Put x count i s) = count ≤ most_cells
ActionIsSmall a = Unit {0}

-- a host that acts by itself does so by such an action; no other gadget has one
abbrev pub GadgetIsSmall : Gadget → Type 0
GadgetIsSmall (Alone h a) = ActionIsSmall a
GadgetIsSmall (Tells a said b heard) = Unit {0}
GadgetIsSmall (Shares a r b heard) = Unit {0}
GadgetIsSmall (BothShare a r heard b q heard_b) = Unit {0}
GadgetIsSmall (Opens sharing a x b y heard) = Unit {0}
GadgetIsSmall (Masked sharing m n) = Unit {0}
GadgetIsSmall (Paired p q) = Unit {0}

-- an act is one line of the text of a host, or a packet: of this as many as it has words
abbrev pub act_bulk : Act → ℕ
act_bulk (act.Do h a) = 1
act_bulk (act.Msg a said b heard) = length said

abbrev pub acts_bulk : List Act → ℕ
acts_bulk [] = 0
acts_bulk (x ∷ acts) = act_bulk x + acts_bulk acts

abbrev pub bulk : List Gadget → ℕ
bulk [] = 0
bulk (g ∷ gs) = acts_bulk (acts_of_gadget g) + bulk gs

bulk_both : (xs ys : List Gadget) → bulk (xs ++ ys) ≡ bulk xs + bulk ys
bulk_both [] ys = omega arith
bulk_both (x ∷ xs) ys = let e = bulk_both xs ys in next (acts_bulk (acts_of_gadget x)) (bulk (xs ++ ys)) (bulk xs) (bulk ys) e
  where
    next : (n a b c : ℕ) → a ≡ b + c → n + a ≡ n + b + c
    next n a b c e = omega (arith, e)

pub record AreFew (most : ℕ) (gs : List Gadget) : Type 0 where
  pub small : Each GadgetIsSmall gs
  pub few : length gs ≤ most
  pub lines : bulk gs ≤ most

pub few_none : (n : ℕ) → AreFew n []
few_none n = record { small = tt; few = omega arith; lines = omega arith }

pub few_more : (m n : ℕ) (gs : List Gadget) → m ≤ n → AreFew m gs → AreFew n gs
few_more m n gs le f = record { small = f.small; few = more (length gs) f.few; lines = more (bulk gs) f.lines }
  where
    more : (k : ℕ) → k ≤ m → k ≤ n
    more k few = omega (arith, few, le)

small_both : (xs ys : List Gadget) → Each GadgetIsSmall xs → Each GadgetIsSmall ys → Each GadgetIsSmall (xs ++ ys)
small_both [] ys f g = g
small_both (x ∷ xs) ys f g = (f.0, small_both xs ys f.1 g)

pub few_both : (m n : ℕ) (xs ys : List Gadget) → AreFew m xs → AreFew n ys → AreFew (m + n) (xs ++ ys)
few_both m n xs ys f g = record {
  small = small_both xs ys f.small g.small;
  few = sums (length (xs ++ ys)) (length xs) (length ys) (length-append xs ys) f.few g.few;
  lines = sums (bulk (xs ++ ys)) (bulk xs) (bulk ys) (bulk_both xs ys) f.lines g.lines;
}
  where
    sums : (k a b : ℕ) → k ≡ a + b → a ≤ m → b ≤ n → k ≤ m + n
    sums k a b e p q = omega (arith, e, p, q)
