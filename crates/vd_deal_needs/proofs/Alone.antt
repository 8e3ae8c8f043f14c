-- What one host takes, whatever words it is given.
use Rattle.std.proofs.Common.{◌≡◌, inl, inr, ℕ, suc, ◌+◌, ◌-◌, ◌*◌, ◌<◌, ◌≤◌, nat_eq, Bool, true, false, cond, List, [], ◌∷◌, Some, refl, sym, ap, subst, arith}
use Rattle.std.specs.Prelude.{nat_lt}
use Rattle.std.proofs.lemmas.Bool.Decides.{eqb_tells}
use borrow.Author.Tests.{ltb-true}
use Rattle.vd_execution.specs.declared.instructions.Action.{Action}
use Rattle.vd_execution.specs.declared.instructions.Action.TheVariants as action
use Rattle.vd_execution.specs.Registers.{Registers}
use Rattle.vd_execution.specs.Code.{Code, Finished, Then, Send, Recv, Choose, Repeat, followed_by}
use Rattle.vd_execution.specs.Step.{Source, Inputs, OwnWords, Triples, BitTriples, Pairs, Cursors, State, Nothing, Item, Packet, Unequal, Ended, same_source, advanced, need_of_action, need_of, pending_after, next}
use Rattle.vd_deal_needs.specs.DealNeedsLawsNeeds.{source_of, one_of, greater, counts, at_start, stepped, NeedsAreEnoughAlone}
use Rattle.vd_deal_needs.proofs.DealNeedsLawsTaken.{action_takes}

-- ---- what was taken, and what is still taken at most

both : (a n d x : ℕ) → n ≡ x + d → a + n ≡ a + x + d
both a n d x e = omega (arith, e)

counts_both : (c d : Code) (r : Source) → counts (followed_by c d) r ≡ counts c r + counts d r
counts_both Finished d r = omega arith
counts_both (Then a c) d r = both (one_of (source_of a) r) (counts (followed_by c d) r) (counts d r) (counts c r) (counts_both c d r)
counts_both (Send p rs c) d r = counts_both c d r
counts_both (Recv p rs c) d r = counts_both c d r
counts_both (Choose g a b c) d r = both (greater (counts a r) (counts b r)) (counts (followed_by c d) r) (counts d r) (counts c r) (counts_both c d r)
counts_both (Repeat q t n body c) d r = both ((n - t) * counts body r) (counts (followed_by c d) r) (counts d r) (counts c r) (counts_both c d r)

one_turn : (a n m x y : ℕ) → n ≡ suc m → a + (x + (m * x + y)) ≤ a + (n * x + y)
one_turn a n m x y e = subst (λ z. a + (x + (m * x + y)) ≤ a + (z * x + y)) (sym e) (omega arith)

turn_most : (b : Bool) (q t n a : ℕ) (body c : Code) (r : Source) → (b ≡ true → t < n)
    → a + counts (cond b (followed_by body (Repeat q (suc t) n body c)) c) r ≤ a + counts (Repeat q t n body c) r
turn_most true q t n a body c r below =
    let lt = below refl in
    let e : n - t ≡ suc (n - suc t) = omega arith in
    rw (counts_both body (Repeat q (suc t) n body c) r) (one_turn a (n - t) (n - suc t) (counts body r) (counts c r) e)
turn_most false q t n a body c r below = no_turn a ((n - t) * counts body r) (counts c r)
  where
    no_turn : (a p k : ℕ) → a + k ≤ a + (p + k)
    no_turn a p k = omega arith

front_most : (a m n k x : ℕ) → x ≡ m + k → a + x ≤ a + (greater m n + k)
front_most a m n k x e = omega (arith, e)

back_most : (a m n k x : ℕ) → x ≡ n + k → a + x ≤ a + (greater m n + k)
back_most a m n k x e = omega (arith, e)

choice_most : (z : Bool) (p : ℕ) (a b c : Code) (r : Source) → p + counts (followed_by (cond z b a) c) r ≤ p + (greater (counts a r) (counts b r) + counts c r)
choice_most true p a b c r = back_most p (counts a r) (counts b r) (counts c r) (counts (followed_by b c) r) (counts_both b c r)
choice_most false p a b c r = front_most p (counts a r) (counts b r) (counts c r) (counts (followed_by a c) r) (counts_both a c r)

act_most : (c d one n : ℕ) → d ≡ c + one → d + n ≤ c + (one + n)
act_most c d one n e = omega (arith, e)

as_before : (a n : ℕ) → a + n ≤ a + n
as_before a n = omega arith

code_most : (f : Registers) (c : Cursors) (code : Code) (r : Source) → advanced c (need_of f code) r + counts (pending_after f code) r ≤ c r + counts code r
code_most f c Finished r = as_before (c r) 0
code_most f c (Then a rest) r = act_most (c r) (advanced c (need_of_action f a) r) (one_of (source_of a) r) (counts rest r) (action_takes c f a r)
code_most f c (Send p rs rest) r = as_before (c r) (counts rest r)
code_most f c (Recv p rs rest) r = as_before (c r) (counts rest r)
code_most f c (Choose g a b rest) r = choice_most (nat_eq (f g) 0) (c r) a b rest r
code_most f c (Repeat q t n body rest) r = turn_most (nat_lt t n) q t n (c r) body rest r (ltb-true t n)

joined : (a b c : ℕ) → a ≤ b → b ≤ c → a ≤ c
joined a b c x y = omega (arith, x, y)

way_most : (m : State) (words : List (List ℕ)) (r : Source) → (stepped m words).cursors r + counts (stepped m words).pending r ≤ m.cursors r + counts m.pending r
way_most m [] r = as_before (m.cursors r) (counts m.pending r)
way_most m (xs ∷ words) r =
    joined ((stepped (next m xs) words).cursors r + counts (stepped (next m xs) words).pending r) ((next m xs).cursors r + counts (next m xs).pending r)
    (m.cursors r + counts m.pending r) (way_most (next m xs) words r) (code_most m.registers m.cursors m.pending r)

-- ---- an item that is taken next

abbrev as_number : Bool → ℕ
as_number b = cond b 1 0

number_itself : (n : ℕ) → nat_eq n n ≡ true
number_itself n = elim (eqb_tells n n) [ inl p ↦ p.0 | inr p ↦ absurd (p.1 refl) ]

itself : (s : Source) → same_source s s ≡ true
itself Inputs = refl
itself OwnWords = refl
itself (Triples p) = number_itself p
itself (BitTriples p) = number_itself p
itself (Pairs p) = number_itself p

one_item : (s r : Source) → Item s ≡ Item r → one_of (Some s) r ≡ 1
one_item s r e =
    let same : s ≡ r = cc in
    subst (λ t. as_number (same_source t s) ≡ 1) same (ap as_number (itself s))

no_item : (r : Source) → Nothing ≡ Item r → ⊥
no_item r e = cc

no_packet : (r : Source) (p n : ℕ) → Packet p n ≡ Item r → ⊥
no_packet r p n e = cc

no_end : (r : Source) → Ended ≡ Item r → ⊥
no_end r e = cc

no_same : (b : Bool) (x y : ℕ) (r : Source) → cond b Nothing (Unequal x y) ≡ Item r → ⊥
no_same true x y r e = cc
no_same false x y r e = cc

action_item : (f : Registers) (a : Action) (r : Source) → need_of_action f a ≡ Item r → one_of (source_of a) r ≡ 1
action_item f (action.Const q k) r e = absurd (no_item r e)
action_item f (action.Copy q x) r e = absurd (no_item r e)
action_item f (action.Apply o q x y) r e = absurd (no_item r e)
action_item f (action.Shl q x k) r e = absurd (no_item r e)
action_item f (action.Shr q x k) r e = absurd (no_item r e)
action_item f (action.Mux q g x y) r e = absurd (no_item r e)
action_item f (action.Own q) r e = one_item OwnWords r e
action_item f (action.Triple p x y z) r e = one_item (Triples p.0) r e
action_item f (action.Bits p x y z) r e = one_item (BitTriples p.0) r e
action_item f (action.Pair p x y) r e = one_item (Pairs p.0) r e
action_item f (action.Input q) r e = one_item Inputs r e
action_item f (action.Print q) r e = absurd (no_item r e)
action_item f (action.Hash d n v) r e = absurd (no_item r e)
action_item f (action.Same x y) r e = absurd (no_same (nat_eq (f x.0) (f y.0)) (f x.0) (f y.0) r e)
action_item f (action.Zero q count) r e = absurd (no_item r e)
action_item f (action.Get q x count i) r e = absurd (no_item r e)
action_item f (action.Put x count i s) r e = absurd (no_item r e)

one_more : (one n : ℕ) → one ≡ 1 → 0 < one + n
one_more one n e = omega (arith, e)

item_counts : (f : Registers) (code : Code) (r : Source) → need_of f code ≡ Item r → 0 < counts code r
item_counts f Finished r e = absurd (no_end r e)
item_counts f (Then a rest) r e = one_more (one_of (source_of a) r) (counts rest r) (action_item f a r e)
item_counts f (Send p rs rest) r e = absurd (no_item r e)
item_counts f (Recv p rs rest) r e = absurd (no_packet r _ _ e)
item_counts f (Choose g a b rest) r e = absurd (no_item r e)
item_counts f (Repeat q t n body rest) r e = absurd (no_item r e)

below_all : (a b c : ℕ) → 0 < b → a + b ≤ 0 + c → a < c
below_all a b c one most = omega (arith, one, most)

pub enough_alone : NeedsAreEnoughAlone
enough_alone code words r e =
    let m : State = stepped (at_start code) words in
    below_all (m.cursors r) (counts m.pending r) (counts code r) (item_counts m.registers m.pending r e) (way_most (at_start code) words r)
