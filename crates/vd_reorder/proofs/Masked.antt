-- What a blind word is.
use Rattle.std.proofs.Common.{◌≡◌, ◌≢◌, ◌⊎◌, inl, inr, ℕ, zero, suc, ◌+◌, ◌-◌, ◌*◌, ◌%◌, ◌^◌, ◌<◌, ◌≤◌, nat_eq, nat_lt, bit_and, bit_xor, Bool, true, false, ◌&&◌, not, if◌then◌else◌, List, [], ◌∷◌, ◌++◌, length, map, refl, sym, ap, ◌∙◌, subst, arith}
use mathlib.Core.Path.{fun_ext}
use Rattle.std.proofs.lemmas.List.{append_assoc}
use Rattle.std.proofs.lemmas.Nat.{xor_comm, xor_lt}
use Rattle.std.proofs.lemmas.Bool.{eqb-true, eqb-false}
use Rattle.vd_base.specs.Identities.{mul_left, mul_right, and_left, and_right}
use Rattle.vd_base.specs.declared.ids.HostId.{HostId}
use Rattle.vd_execution.specs.declared.instructions.Reg.{Reg}
use Rattle.vd_execution.specs.declared.instructions.Binary.{Binary}
use Rattle.vd_execution.specs.declared.instructions.Binary.TheVariants as binary
use Rattle.vd_execution.specs.declared.instructions.Action.{Action}
use Rattle.vd_execution.specs.declared.instructions.Action.TheVariants as action
use Rattle.vd_execution.specs.declared.instructions.Instr.{Instr}
use Rattle.vd_execution.specs.declared.instructions.Instr.TheVariants as instr
use Rattle.vd_execution.specs.Registers.{Registers, put, written, applied, nth}
use Rattle.vd_execution.specs.Text.{register}
use Rattle.vd_execution.proofs.Front.{same_or_not, put_same, put_other, put_twice, put_commutes}
use Rattle.std.specs.Int.Bits.{xor_assoc, xor_self, xor_zero_r}
use Rattle.vd_reorder.specs.ReorderLawsTesting.{row, has, reads, writes}
use Rattle.vd_reorder.specs.Packets.{touches, since, latest, is_latest, is_factor, deals, is_mask, hides, draws, is_secret, are_secret, is_nonce, leaves_blind, left_blind, is_blind}
use Rattle.vd_reorder.specs.Blind.{Did, effect, behind, instructions, told_by, told, AreWords, Fits, filled, with_item, IsHidden, IsUnused, IsOfDigest, IsMark, AreMarked, BlindWordsHide}
use Rattle.vd_reorder.proofs.Leaving.{AllLeave, behind_append, past_all, stays, told_past, told_append, leave_parts, all_left, neither, not_that}

-- ---- masks

xor_back : (a b : ℕ) → bit_xor (bit_xor a b) b ≡ a
xor_back a b = xor_assoc a b b ∙ ap (λ (q : ℕ). bit_xor a q) (xor_self b) ∙ xor_zero_r a

only_difference : (x a b : ℕ) → a < 2 ^ 32 → b < 2 ^ 32 → (x + (2 ^ 32 - a)) % 2 ^ 32 ≡ (x + (2 ^ 32 - b)) % 2 ^ 32 → a ≡ b
only_difference x a b ha hb e = omega (arith, e, ha, hb)

only_xor : (x a b : ℕ) → bit_xor x a ≡ bit_xor x b → a ≡ b
only_xor x a b e = sym (xor_back a x) ∙ ap (λ (q : ℕ). bit_xor q x) (xor_comm a x ∙ e ∙ xor_comm x b) ∙ xor_back b x

-- ---- the latest that touches the register

record Latest (r : Reg) (test : Instr → List Instr → Bool) (marked : List Instr) (before : List Did) : Type 0 where
  later : List Did
  that : Did
  earlier : List Did
  split : before ≡ later ++ that ∷ earlier
  leave : AllLeave r later
  touched : touches r that.instruction ≡ true
  passed : test that.instruction (instructions earlier ++ marked) ≡ true

abbrev FailsAtMarks : (Instr → List Instr → Bool) → Type 0
FailsAtMarks test = (i : Instr) (before : List Instr) → IsMark i → test i before ≡ false

one_further : (r : Reg) (test : Instr → List Instr → Bool) (marked : List Instr) (d : Did) (before : List Did) (b : Bool) → touches r d.instruction ≡ b
    → (latest test (since r (instructions before ++ marked)) ≡ true → Latest r test marked before)
    → latest test (if b then d.instruction ∷ (instructions before ++ marked) else since r (instructions before ++ marked)) ≡ true → Latest r test marked (d ∷ before)
one_further r test marked d before true t behind e = record { later = []; that = d; earlier = before; split = refl; leave = tt; touched = t; passed = e }
one_further r test marked d before false t behind e =
    let n = behind e in
    record { later = d ∷ n.later; that = n.that; earlier = n.earlier; split = ap (λ l. d ∷ l) n.split; leave = (t, n.leave); touched = n.touched; passed = n.passed }

not_both : (b : Bool) → b ≡ false → b ≡ true → ⊥
not_both true e f = absurd cc
not_both false e f = absurd cc

none_at_mark : (r : Reg) (test : Instr → List Instr → Bool) → FailsAtMarks test → (marked : List Instr) → AreMarked marked → latest test (since r marked) ≡ true → ⊥
none_at_mark r test fails [] ends e = absurd cc
none_at_mark r test fails (instr.Do a ∷ is) ends e = absurd ends
none_at_mark r test fails (instr.Send p rs ∷ is) ends e = absurd ends
none_at_mark r test fails (instr.Recv p rs ∷ is) ends e = absurd ends
none_at_mark r test fails (instr.If g ∷ is) ends e = not_both (test (instr.If g) is) (fails (instr.If g) is tt) e
none_at_mark r test fails (instr.Else ∷ is) ends e = not_both (test instr.Else is) (fails instr.Else is tt) e
none_at_mark r test fails (instr.For k n ∷ is) ends e = not_both (test (instr.For k n) is) (fails (instr.For k n) is tt) e
none_at_mark r test fails (instr.End ∷ is) ends e = not_both (test instr.End is) (fails instr.End is tt) e

found : (r : Reg) (test : Instr → List Instr → Bool) → FailsAtMarks test → (marked : List Instr) → AreMarked marked → (before : List Did)
    → latest test (since r (instructions before ++ marked)) ≡ true → Latest r test marked before
found r test fails marked ends [] e = absurd (none_at_mark r test fails marked ends e)
found r test fails marked ends (d ∷ before) e = one_further r test marked d before (touches r d.instruction) refl (found r test fails marked ends before) e

left_fails : (all : List Instr) (r : Reg) → FailsAtMarks (left_blind all r)
left_fails all r (instr.Do a) before m = absurd m
left_fails all r (instr.Send p rs) before m = refl
left_fails all r (instr.Recv p rs) before m = refl
left_fails all r (instr.If g) before m = refl
left_fails all r instr.Else before m = refl
left_fails all r (instr.For k n) before m = refl
left_fails all r instr.End before m = refl

deals_fails : (all : List Instr) (r : Reg) → FailsAtMarks (deals all r)
deals_fails all r (instr.Do a) before m = absurd m
deals_fails all r (instr.Send p rs) before m = refl
deals_fails all r (instr.Recv p rs) before m = refl
deals_fails all r (instr.If g) before m = refl
deals_fails all r instr.Else before m = refl
deals_fails all r (instr.For k n) before m = refl
deals_fails all r instr.End before m = refl

draws_fails : FailsAtMarks draws
draws_fails (instr.Do a) before m = absurd m
draws_fails (instr.Send p rs) before m = refl
draws_fails (instr.Recv p rs) before m = refl
draws_fails (instr.If g) before m = refl
draws_fails instr.Else before m = refl
draws_fails (instr.For k n) before m = refl
draws_fails instr.End before m = refl

-- ---- what nothing has used since

longer : (front : List Did) (d : Did) (back : List Did) (marked : List Instr) → suc (length (instructions back ++ marked)) ≤ length (instructions (front ++ d ∷ back) ++ marked)
longer [] d back marked = omega arith
longer (e ∷ front) d back marked = let i = longer front d back marked in omega (arith, i)

left_further : (r : Reg) (e : Did) (front : List Did) (rest : List Instr) (k : ℕ) (b : Bool) → touches r e.instruction ≡ b → suc k ≤ length rest
    → (nat_eq (length (since r rest)) (suc k) ≡ true → AllLeave r front) → nat_eq (length (if b then e.instruction ∷ rest else since r rest)) (suc k) ≡ true
    → AllLeave r (e ∷ front)
left_further r e front rest k true t long next is = absurd (let n = eqb-true (suc (length rest)) (suc k) is in omega (arith, n, long))
left_further r e front rest k false t long next is = (t, next is)

unused_since : (r : Reg) (front : List Did) (d : Did) (back : List Did) (marked : List Instr)
    → is_latest (instructions (front ++ d ∷ back) ++ marked) r (instructions back ++ marked) ≡ true → AllLeave r front
unused_since r [] d back marked e = tt
unused_since r (c ∷ front) d back marked e =
    left_further r c front (instructions (front ++ d ∷ back) ++ marked) (length (instructions back ++ marked)) (touches r c.instruction) refl (longer front d back marked)
    (unused_since r front d back marked) e

-- ---- tests

both : (a b : Bool) → (a && b) ≡ true → (a ≡ true) × (b ≡ true)
both true b e = (refl, e)
both false b e = absurd cc

negated : (b : Bool) → not b ≡ true → b ≡ false
negated true e = absurd cc
negated false e = refl

same_number : (x y : ℕ) → nat_eq x y ≡ true → x ≡ y
same_number x y e = eqb-true x y e

other_number : (x y : ℕ) → nat_eq x y ≡ false → x ≢ y
other_number x y e = eqb-false x y e

one_of : (r q : Reg) (qs : List Reg) (b : Bool) → nat_eq r.0 q.0 ≡ b → (if b then true else has r qs) ≡ true → (r.0 ≡ q.0) ⊎ (has r qs ≡ true)
one_of r q qs true e f = inl (same_number r.0 q.0 e)
one_of r q qs false e f = inr f

not_those : (r q : Reg) (qs : List Reg) → has r (q ∷ qs) ≡ false → (r.0 ≢ q.0) × (has r qs ≡ false)
not_those r q qs e = not_that r q qs (nat_eq r.0 q.0) refl e

alone : (r q : Reg) → has r (q ∷ []) ≡ true → r.0 ≡ q.0
alone r q e = only_one (one_of r q [] (nat_eq r.0 q.0) refl e)
  where
    only_one : (r.0 ≡ q.0) ⊎ (has r [] ≡ true) → r.0 ≡ q.0
    only_one (inl same) = same
    only_one (inr wrong) = absurd cc

-- ---- registers that change at a few places

erased : (f g : Registers) (q w : ℕ) → ((j : ℕ) → j ≢ q → f j ≡ g j) → put f q w ≡ put g q w
erased f g q w same = fun_ext (λ j. at j (same_or_not j q))
  where
    at : (j : ℕ) → (j ≡ q) ⊎ (j ≢ q) → put f q w j ≡ put g q w j
    at j (inl e) = ap (put f q w) e ∙ put_same f q w ∙ sym (put_same g q w) ∙ ap (put g q w) (sym e)
    at j (inr n) = put_other f q w j n ∙ same j n ∙ sym (put_other g q w j n)

through : (f g : Registers) (q i a : ℕ) → ((j : ℕ) → j ≢ q → f j ≡ g j) → (j : ℕ) → j ≢ q → put f i a j ≡ put g i a j
through f g q i a same j ne = by (same_or_not j i)
  where
    by : (j ≡ i) ⊎ (j ≢ i) → put f i a j ≡ put g i a j
    by (inl e) = ap (put f i a) e ∙ put_same f i a ∙ sym (put_same g i a) ∙ ap (put g i a) (sym e)
    by (inr n) = put_other f i a j n ∙ same j ne ∙ sym (put_other g i a j n)

at_register : (f g : Registers) (m q : Reg) (y : ℕ) → m.0 ≡ q.0 → f ≡ put g q.0 y → f ≡ put g m.0 y
at_register f g m q y same e = e ∙ ap (λ k. put g k y) (sym same)

-- ---- a dealt product with another word in it

-- An item with another word, which fits what the peer was dealt by another product, and changes no other register than those two. Nothing
-- has used the product.
record Other (all before : List Instr) (f : Registers) (i : Instr) (got : List ℕ) (m : Reg) : Type 0 where
  product : Reg
  differ : m.0 ≢ product.0
  unused : is_latest all product before ≡ true
  with_word : List ℕ → ℕ → List ℕ
  fits : (theirs : List ℕ) (y : ℕ) → nth theirs 2 < 2 ^ 32 → Fits i (with_word theirs y) theirs
  made : List ℕ → ℕ → ℕ
  placed : (theirs : List ℕ) (y : ℕ) → effect f i (with_word theirs y) ≡ put (put (effect f i got) m.0 y) product.0 (made theirs y)
  apart : (q : Reg) → has q (filled i) ≡ false → (q.0 ≢ m.0) × (q.0 ≢ product.0)

abbrev three : Registers → (a b c : Reg) → (x y z : ℕ) → Registers
three f a b c x y z = put (put (put f a.0 x) b.0 y) c.0 z

-- the second of the two words
second_word : (f : Registers) (a b c : Reg) (x y z w : ℕ) → b.0 ≢ c.0 → three f a b c x w z ≡ put (three f a b c x y z) b.0 w
second_word f a b c x y z w ne =
    ap (λ (g : Registers). put g c.0 z) (sym (put_twice (put f a.0 x) b.0 y w)) ∙ put_commutes (put (put f a.0 x) b.0 y) b.0 c.0 w z ne

-- the first, where they go to two registers
first_word : (f : Registers) (a b c : Reg) (x y z w : ℕ) → a.0 ≢ c.0 → a.0 ≢ b.0 → three f a b c w y z ≡ put (three f a b c x y z) a.0 w
first_word f a b c x y z w ne apart =
    ap (λ (g : Registers). put (put g b.0 y) c.0 z) (sym (put_twice f a.0 x w))
    ∙ ap (λ (g : Registers). put g c.0 z) (put_commutes (put f a.0 x) a.0 b.0 w y apart)
    ∙ put_commutes (put (put f a.0 x) b.0 y) a.0 c.0 w z ne

-- and another product
third_word : (f : Registers) (a b c : Reg) (x y z v : ℕ) → three f a b c x y v ≡ put (three f a b c x y z) c.0 v
third_word f a b c x y z v = sym (put_twice (put (put f a.0 x) b.0 y) c.0 z v)

-- what makes a kind of item, and the product that goes with two words beside a peer's part
record IsKind (make : (p : HostId) (a b c : Reg) → Action) : Type 0 where
  writes_three : (f : Registers) (p : HostId) (a b c : Reg) (xs : List ℕ) → written f (make p a b c) xs ≡ three f a b c (nth xs 0) (nth xs 1) (nth xs 2)
  fills : (p : HostId) (a b c q : Reg) → has q (filled (instr.Do (make p a b c))) ≡ false → has q (a ∷ b ∷ c ∷ []) ≡ false
  product_of : (x y : ℕ) (theirs : List ℕ) → ℕ
  fitting : (p : HostId) (a b c : Reg) (x y : ℕ) (theirs : List ℕ) → nth theirs 2 < 2 ^ 32
      → Fits (instr.Do (make p a b c)) (x ∷ y ∷ product_of x y theirs ∷ []) theirs

made_up : (p c : ℕ) → c < 2 ^ 32 → p % 2 ^ 32 ≡ ((p + (2 ^ 32 - c)) % 2 ^ 32 + c) % 2 ^ 32
made_up p c h = omega (arith, h)

by_sums : IsKind (λ p a b c. action.Triple p a b c)
by_sums = record {
  writes_three = λ f p a b c xs. refl;
  fills = λ p a b c q e. e;
  product_of = λ x y theirs. ((x + nth theirs 0) * (y + nth theirs 1) + (2 ^ 32 - nth theirs 2)) % 2 ^ 32;
  fitting = λ p a b c x y theirs h. made_up ((x + nth theirs 0) * (y + nth theirs 1)) (nth theirs 2) h;
}

by_bits : IsKind (λ p a b c. action.Bits p a b c)
by_bits = record {
  writes_three = λ f p a b c xs. refl;
  fills = λ p a b c q e. e;
  product_of = λ x y theirs. bit_xor (bit_and (bit_xor x (nth theirs 0)) (bit_xor y (nth theirs 1))) (nth theirs 2);
  fitting = λ p a b c x y theirs h. sym (xor_back (bit_and (bit_xor x (nth theirs 0)) (bit_xor y (nth theirs 1))) (nth theirs 2));
}

-- whichever of the two the register got
dealt_else : (make : (p : HostId) (a b c : Reg) → Action) → IsKind make → (all before : List Instr) (p : HostId) (a b c : Reg) (f : Registers) (got : List ℕ) (m : Reg)
    → m.0 ≢ c.0 → is_latest all c before ≡ true → has m (a ∷ b ∷ c ∷ []) ≡ true → Other all before f (instr.Do (make p a b c)) got m
dealt_else make kind all before p a b c f got m ne unused among =
    elim (same_or_not m.0 b.0) [
      | inl is_b ↦
          let made : List ℕ → ℕ → ℕ = λ theirs y. kind.product_of (nth got 0) y theirs in
          record {
            product = c;
            differ = ne;
            unused = unused;
            with_word = λ theirs y. nth got 0 ∷ y ∷ made theirs y ∷ [];
            fits = λ theirs y h. kind.fitting p a b c (nth got 0) y theirs h;
            made = made;
            placed = λ theirs y. kind.writes_three f p a b c (nth got 0 ∷ y ∷ made theirs y ∷ [])
                ∙ third_word f a b c (nth got 0) y (nth got 2) (made theirs y)
                ∙ ap (λ (g : Registers). put g c.0 (made theirs y))
                (at_register _ _ m b y is_b (second_word f a b c (nth got 0) (nth got 1) (nth got 2) y (λ e. ne (is_b ∙ e)))
                ∙ ap (λ (g : Registers). put g m.0 y) (sym (kind.writes_three f p a b c got)));
            apart = λ q e. let n = away q e in ((λ same. n.1 (same ∙ is_b)), n.2);
          }
      | inr not_b ↦
          let is_a : m.0 ≡ a.0 = first (one_of m a (b ∷ c ∷ []) (nat_eq m.0 a.0) refl among) not_b in
          let made : List ℕ → ℕ → ℕ = λ theirs y. kind.product_of y (nth got 1) theirs in
          record {
            product = c;
            differ = ne;
            unused = unused;
            with_word = λ theirs y. y ∷ nth got 1 ∷ made theirs y ∷ [];
            fits = λ theirs y h. kind.fitting p a b c y (nth got 1) theirs h;
            made = made;
            placed = λ theirs y. kind.writes_three f p a b c (y ∷ nth got 1 ∷ made theirs y ∷ [])
                ∙ third_word f a b c y (nth got 1) (nth got 2) (made theirs y)
                ∙ ap (λ (g : Registers). put g c.0 (made theirs y))
                (at_register _ _ m a y is_a (first_word f a b c (nth got 0) (nth got 1) (nth got 2) y (λ e. ne (is_a ∙ e)) (λ e. not_b (is_a ∙ e)))
                ∙ ap (λ (g : Registers). put g m.0 y) (sym (kind.writes_three f p a b c got)));
            apart = λ q e. let n = away q e in ((λ same. n.0 (same ∙ is_a)), n.2);
          }
    ]
  where
    last : has m (c ∷ []) ≡ true → ⊥
    last e = ne (alone m c e)

    second : (m.0 ≡ b.0) ⊎ (has m (c ∷ []) ≡ true) → (m.0 ≢ b.0) → ⊥
    second (inl e) n = n e
    second (inr e) n = last e

    first : (m.0 ≡ a.0) ⊎ (has m (b ∷ c ∷ []) ≡ true) → (m.0 ≢ b.0) → m.0 ≡ a.0
    first (inl e) n = e
    first (inr e) n = absurd (second (one_of m b (c ∷ []) (nat_eq m.0 b.0) refl e) n)

    away : (q : Reg) → has q (filled (instr.Do (make p a b c))) ≡ false → (q.0 ≢ a.0) × (q.0 ≢ b.0) × (q.0 ≢ c.0)
    away q e =
        let x = not_those q a (b ∷ c ∷ []) (kind.fills p a b c q e) in
        let y = not_those q b (c ∷ []) x.1 in
        let z = not_those q c [] y.1 in
        (x.0, y.0, z.0)

dealt : (all before : List Instr) (i : Instr) (f : Registers) (got : List ℕ) (m : Reg) → touches m i ≡ true → deals all m i before ≡ true → Other all before f i got m
dealt all before (instr.Do (action.Const r k)) f got m t e = absurd cc
dealt all before (instr.Do (action.Copy r x)) f got m t e = absurd cc
dealt all before (instr.Do (action.Apply o r x y)) f got m t e = absurd cc
dealt all before (instr.Do (action.Shl r x k)) f got m t e = absurd cc
dealt all before (instr.Do (action.Shr r x k)) f got m t e = absurd cc
dealt all before (instr.Do (action.Mux r c x y)) f got m t e = absurd cc
dealt all before (instr.Do (action.Own r)) f got m t e = absurd cc
dealt all before (instr.Do (action.Triple p a b c)) f got m t e =
    let n = both (not (nat_eq m.0 c.0)) (is_latest all c before) e in
    dealt_else (λ h x y z. action.Triple h x y z) by_sums all before p a b c f got m (other_number m.0 c.0 (negated (nat_eq m.0 c.0) n.0)) n.1 t
dealt all before (instr.Do (action.Bits p a b c)) f got m t e =
    let n = both (not (nat_eq m.0 c.0)) (is_latest all c before) e in
    dealt_else (λ h x y z. action.Bits h x y z) by_bits all before p a b c f got m (other_number m.0 c.0 (negated (nat_eq m.0 c.0) n.0)) n.1 t
dealt all before (instr.Do (action.Pair p s x)) f got m t e = absurd cc
dealt all before (instr.Do (action.Input r)) f got m t e = absurd cc
dealt all before (instr.Do (action.Print r)) f got m t e = absurd cc
dealt all before (instr.Do (action.Hash d n v)) f got m t e = absurd cc
dealt all before (instr.Do (action.Same x y)) f got m t e = absurd cc
dealt all before (instr.Do (action.Zero r k)) f got m t e = absurd cc
dealt all before (instr.Do (action.Get r x k i)) f got m t e = absurd cc
dealt all before (instr.Do (action.Put x k i s)) f got m t e = absurd cc
dealt all before (instr.Send p rs) f got m t e = absurd cc
dealt all before (instr.Recv p rs) f got m t e = absurd cc
dealt all before (instr.If g) f got m t e = absurd cc
dealt all before instr.Else f got m t e = absurd cc
dealt all before (instr.For k n) f got m t e = absurd cc
dealt all before instr.End f got m t e = absurd cc

-- ---- an operation that hides

word_of_difference : (x w : ℕ) → w < 2 ^ 32 → (x + (2 ^ 32 - (x + (2 ^ 32 - w)) % 2 ^ 32)) % 2 ^ 32 ≡ w
word_of_difference x w h = omega (arith, h)

-- there is one word under which the word becomes this one
record Masking (o : Binary) (x : ℕ) : Type 0 where
  every : (w : ℕ) → w < 2 ^ 32 → (y : ℕ) × (y < 2 ^ 32) × (applied o x y ≡ w)
  only : (y z : ℕ) → y < 2 ^ 32 → z < 2 ^ 32 → applied o x y ≡ applied o x z → y ≡ z

by_difference : (x : ℕ) → Masking binary.Sub x
by_difference x = record {
  every = λ w h. ((x + (2 ^ 32 - w)) % 2 ^ 32, omega arith, word_of_difference x w h);
  only = λ y z hy hz e. only_difference x y z hy hz e;
}

by_xor : (x : ℕ) → x < 2 ^ 32 → Masking binary.Xor x
by_xor x hx = record {
  every = λ w h. (bit_xor x w, xor_lt 32 x w hx h, xor_comm x (bit_xor x w) ∙ ap (λ q. bit_xor q x) (xor_comm x w) ∙ xor_back w x);
  only = λ y z hy hz e. only_xor x y z e;
}

masking : (o : Binary) (x : ℕ) → hides o ≡ true → x < 2 ^ 32 → Masking o x
masking binary.Add x e h = absurd cc
masking binary.Sub x e h = by_difference x
masking binary.Mul x e h = absurd cc
masking binary.Div x e h = absurd cc
masking binary.Rem x e h = absurd cc
masking binary.And x e h = absurd cc
masking binary.Or x e h = absurd cc
masking binary.Xor x e h = by_xor x h
masking binary.Eq x e h = absurd cc
masking binary.Ne x e h = absurd cc
masking binary.Lt x e h = absurd cc
masking binary.Le x e h = absurd cc
masking binary.Min x e h = absurd cc
masking binary.Max x e h = absurd cc

-- ---- an own word

record IsDraw (n : Reg) (i : Instr) : Type 0 where
  register : Reg
  is : i ≡ instr.Do (action.Own register)
  same : n.0 ≡ register.0

drawn_by : (n : Reg) (i : Instr) (before : List Instr) → touches n i ≡ true → draws i before ≡ true → IsDraw n i
drawn_by n (instr.Do (action.Const r k)) before t e = absurd cc
drawn_by n (instr.Do (action.Copy r x)) before t e = absurd cc
drawn_by n (instr.Do (action.Apply o r x y)) before t e = absurd cc
drawn_by n (instr.Do (action.Shl r x k)) before t e = absurd cc
drawn_by n (instr.Do (action.Shr r x k)) before t e = absurd cc
drawn_by n (instr.Do (action.Mux r c x y)) before t e = absurd cc
drawn_by n (instr.Do (action.Own r)) before t e = record { register = r; is = refl; same = alone n r t }
drawn_by n (instr.Do (action.Triple p a b c)) before t e = absurd cc
drawn_by n (instr.Do (action.Bits p a b c)) before t e = absurd cc
drawn_by n (instr.Do (action.Pair p s x)) before t e = absurd cc
drawn_by n (instr.Do (action.Input r)) before t e = absurd cc
drawn_by n (instr.Do (action.Print r)) before t e = absurd cc
drawn_by n (instr.Do (action.Hash d q v)) before t e = absurd cc
drawn_by n (instr.Do (action.Same x y)) before t e = absurd cc
drawn_by n (instr.Do (action.Zero r k)) before t e = absurd cc
drawn_by n (instr.Do (action.Get r x k i)) before t e = absurd cc
drawn_by n (instr.Do (action.Put x k i s)) before t e = absurd cc
drawn_by n (instr.Send p rs) before t e = absurd cc
drawn_by n (instr.Recv p rs) before t e = absurd cc
drawn_by n (instr.If g) before t e = absurd cc
drawn_by n instr.Else before t e = absurd cc
drawn_by n (instr.For k c) before t e = absurd cc
drawn_by n instr.End before t e = absurd cc

secret_by : (all before : List Instr) (r : ℕ) (n : Reg) (others : List Reg) → is_secret all before (register r) ≡ true
    → (has n others ≡ true → is_secret all before n ≡ true) → (n.0 ≡ r) ⊎ (has n others ≡ true) → is_secret all before n ≡ true
secret_by all before r n others here further (inl same) = subst (λ (k : ℕ). is_secret all before (register k) ≡ true) (sym same) here
secret_by all before r n others here further (inr among) = further among

secret_at : (all before : List Instr) (r count : ℕ) (n : Reg) → are_secret all before r count ≡ true → has n (row r count) ≡ true → is_secret all before n ≡ true
secret_at all before r zero n e among = absurd cc
secret_at all before r (suc count) n e among =
    let p = both (is_secret all before (register r)) (are_secret all before (r + 1) count) e in
    secret_by all before r n (row (r + 1) count) p.0 (secret_at all before (r + 1) count n p.1) (one_of n (register r) (row (r + 1) count) (nat_eq n.0 r) refl among)

-- ---- the three kinds of words

abbrev new_item : Did → List ℕ → Did
new_item e xs = record e { got = xs }

module _ (f : Registers) (marked : List Instr) (ends : AreMarked marked) (before : List Did) (r : Reg) (words : AreWords f before) where
  -- an own word
  drawn : (later : List Did) (d : Did) (earlier : List Did) (q : Reg) → before ≡ later ++ d ∷ earlier → AllLeave r later → d.instruction ≡ instr.Do (action.Own q) → r.0 ≡ q.0 → IsHidden f before r
  drawn later d earlier q split leave is same =
      let g : Registers = behind f earlier in
      let old : Registers = effect g d.instruction d.got in
      let base : behind old later ≡ behind f before = sym (behind_append f later (d ∷ earlier)) ∙ ap (behind f) (sym split) in
      let here : (y : ℕ) → effect g d.instruction (y ∷ []) ≡ put old r.0 y =
      λ y. ap (λ i. effect g i (y ∷ [])) is
      ∙ sym (put_twice g q.0 (nth d.got 0) y)
      ∙ ap (λ k. put (put g q.0 (nth d.got 0)) k y) (sym same)
      ∙ ap (λ i. put (effect g i d.got) r.0 y) (sym is) in
      let final : (y : ℕ) → behind f (with_item later d earlier (y ∷ [])) ≡ put (behind f before) r.0 y =
      λ y. behind_append f later ((record d { got = y ∷ [] }) ∷ earlier)
      ∙ ap (λ h. behind h later) (here y)
      ∙ past_all later r leave old y
      ∙ ap (λ h. put h r.0 y) base in
      let gives : (y : ℕ) → behind f (with_item later d earlier (y ∷ [])) r.0 ≡ y = λ y. ap (λ h. h r.0) (final y) ∙ put_same (behind f before) r.0 y in
      record {
        later = later;
        item = d;
        earlier = earlier;
        split = split;
        with_word = λ theirs y. y ∷ [];
        fits = λ theirs y h. subst (λ i. Fits i (y ∷ []) theirs) (sym is) tt;
        untold = λ theirs y. told_append f later ((record d { got = y ∷ [] }) ∷ earlier)
            ∙ ap (λ h. told h later ++ (told_by g d.instruction ++ told f earlier)) (here y)
            ∙ ap (λ l. l ++ (told_by g d.instruction ++ told f earlier)) (told_past later r leave old y)
            ∙ sym (told_append f later (d ∷ earlier))
            ∙ ap (told f) (sym split);
        elsewhere = λ theirs y k e. ap (λ h. h k.0) (final y) ∙ put_other (behind f before) r.0 y k.0 (not_those k r (filled d.instruction) e).0;
        every = λ theirs w h. (w, h, gives w);
        only = λ theirs y z hy hz e. sym (gives y) ∙ e ∙ gives z;
      }

  -- a word under a dealt one
  masked : (later : List Did) (d : Did) (earlier : List Did) (o : Binary) (q x m : Reg) → before ≡ later ++ d ∷ earlier → AllLeave r later → d.instruction ≡ instr.Do (action.Apply o q x m) → r.0 ≡ q.0
      → hides o ≡ true → x.0 ≢ m.0 → AllLeave m later → Latest m (deals (instructions before ++ marked) m) marked earlier → IsHidden f before r
  masked later d earlier o q x m split leave is same can apart m_later n =
      let g : Registers = behind f n.earlier in
      let dealt_item = dealt (instructions before ++ marked) (instructions n.earlier ++ marked) n.that.instruction g n.that.got m n.touched n.passed in
      by dealt_item.product dealt_item.with_word dealt_item.made dealt_item.fits dealt_item.placed dealt_item.apart dealt_item.differ dealt_item.unused
    where
      by : (c : Reg) (with_word : List ℕ → ℕ → List ℕ) (made : List ℕ → ℕ → ℕ)
          → ((theirs : List ℕ) (y : ℕ) → nth theirs 2 < 2 ^ 32 → Fits n.that.instruction (with_word theirs y) theirs)
          → ((theirs : List ℕ) (y : ℕ) → effect (behind f n.earlier) n.that.instruction (with_word theirs y)
          ≡ put (put (effect (behind f n.earlier) n.that.instruction n.that.got) m.0 y) c.0 (made theirs y))
          → ((k : Reg) → has k (filled n.that.instruction) ≡ false → (k.0 ≢ m.0) × (k.0 ≢ c.0))
          → m.0 ≢ c.0 → is_latest (instructions before ++ marked) c (instructions n.earlier ++ marked) ≡ true → IsHidden f before r
      by c with_word made fits placed others differ unused =
          let front : List Did = later ++ d ∷ n.later in
          let whole : before ≡ front ++ n.that ∷ n.earlier =
          split ∙ ap (λ l. later ++ d ∷ l) n.split ∙ sym (append_assoc later (d ∷ n.later) (n.that ∷ n.earlier)) in
          let c_front : AllLeave c front =
          unused_since c front n.that n.earlier marked (ap (λ l. is_latest (instructions l ++ marked) c (instructions n.earlier ++ marked)) (sym whole) ∙ unused) in
          let c_parts = leave_parts c later (d ∷ n.later) c_front in
          let c_later : AllLeave c later = c_parts.0 in
          let c_between : AllLeave c n.later = c_parts.1.1 in
          let c_here : touches c (instr.Do (action.Apply o q x m)) ≡ false = ap (touches c) (sym is) ∙ c_parts.1.0 in
          let c_x : c.0 ≢ x.0 = (not_those c x (m ∷ []) (neither (has c (x ∷ m ∷ [])) (has c (q ∷ [])) c_here).0).0 in
          let old : Registers = effect (behind f n.earlier) n.that.instruction n.that.got in
          let a : Registers = behind f earlier in
          let word : ℕ = a x.0 in
          let b : Registers = effect a d.instruction d.got in
          let k : Masking o word = masking o word can (words (later ++ d ∷ []) earlier (split ∙ sym (append_assoc later (d ∷ []) earlier)) x.0) in
          let a_is : behind old n.later ≡ a = sym (behind_append f n.later (n.that ∷ n.earlier)) ∙ ap (behind f) (sym n.split) in
          let b_is : behind b later ≡ behind f before = sym (behind_append f later (d ∷ earlier)) ∙ ap (behind f) (sym split) in
          let b_there : b ≡ put a q.0 (applied o word (a m.0)) = ap (λ i. effect a i d.got) is in
          let new : List ℕ → ℕ → List Did = λ theirs y. n.later ++ new_item n.that (with_word theirs y) ∷ n.earlier in
          let changed : List ℕ → ℕ → Registers = λ theirs y. put (put a m.0 y) c.0 (made theirs y) in
          let past : (theirs : List ℕ) (y : ℕ) → behind f (new theirs y) ≡ changed theirs y =
          λ theirs y. behind_append f n.later (new_item n.that (with_word theirs y) ∷ n.earlier)
          ∙ ap (λ h. behind h n.later) (placed theirs y)
          ∙ past_all n.later c c_between (put old m.0 y) (made theirs y)
          ∙ ap (λ h. put h c.0 (made theirs y)) (past_all n.later m n.leave old y ∙ ap (λ h. put h m.0 y) a_is) in
          let reads_word : (theirs : List ℕ) (y : ℕ) → changed theirs y x.0 ≡ word =
          λ theirs y. put_other (put a m.0 y) c.0 (made theirs y) x.0 (λ e. c_x (sym e)) ∙ put_other a m.0 y x.0 apart in
          let reads_mask : (theirs : List ℕ) (y : ℕ) → changed theirs y m.0 ≡ y =
          λ theirs y. put_other (put a m.0 y) c.0 (made theirs y) m.0 differ ∙ put_same a m.0 y in
          let outside : (j : ℕ) → j ≢ q.0 → a j ≡ b j = λ j ne. sym (put_other a q.0 (applied o word (a m.0)) j ne) ∙ ap (λ (h : Registers). h j) (sym b_there) in
          let after : List ℕ → ℕ → Registers = λ theirs y. put (put b m.0 y) c.0 (made theirs y) in
          let acted : (theirs : List ℕ) (y : ℕ) → effect (changed theirs y) d.instruction d.got ≡ put (after theirs y) r.0 (applied o word y) =
          λ theirs y. ap (λ i. effect (changed theirs y) i d.got) is
          ∙ ap (λ v. put (changed theirs y) q.0 (applied o v (changed theirs y m.0))) (reads_word theirs y)
          ∙ ap (λ v. put (changed theirs y) q.0 (applied o word v)) (reads_mask theirs y)
          ∙ erased (changed theirs y) (after theirs y) q.0 (applied o word y)
          (through (put a m.0 y) (put b m.0 y) q.0 c.0 (made theirs y) (through a b q.0 m.0 y outside))
          ∙ ap (λ i. put (after theirs y) i (applied o word y)) (sym same) in
          let behind_it : (theirs : List ℕ) (y : ℕ) → behind f (d ∷ new theirs y) ≡ put (after theirs y) r.0 (applied o word y) =
          λ theirs y. ap (λ h. effect h d.instruction d.got) (past theirs y) ∙ acted theirs y in
          let final : (theirs : List ℕ) (y : ℕ) → behind f (with_item front n.that n.earlier (with_word theirs y))
          ≡ put (put (put (behind f before) m.0 y) c.0 (made theirs y)) r.0 (applied o word y) =
          λ theirs y. ap (behind f) (append_assoc later (d ∷ n.later) (new_item n.that (with_word theirs y) ∷ n.earlier))
          ∙ behind_append f later (d ∷ new theirs y)
          ∙ ap (λ h. behind h later) (behind_it theirs y)
          ∙ past_all later r leave (after theirs y) (applied o word y)
          ∙ ap (λ h. put h r.0 (applied o word y))
          (past_all later c c_later (put b m.0 y) (made theirs y)
          ∙ ap (λ h. put h c.0 (made theirs y)) (past_all later m m_later b y ∙ ap (λ h. put h m.0 y) b_is)) in
          let gives : (theirs : List ℕ) (y : ℕ) → behind f (with_item front n.that n.earlier (with_word theirs y)) r.0 ≡ applied o word y =
          λ theirs y. ap (λ h. h r.0) (final theirs y) ∙ put_same (put (put (behind f before) m.0 y) c.0 (made theirs y)) r.0 (applied o word y) in
          let silent : (h : Registers) → told_by h d.instruction ≡ [] = λ h. ap (told_by h) is in
          let told_new : (theirs : List ℕ) (y : ℕ) → told f (new theirs y) ≡ told f earlier =
          λ theirs y. told_append f n.later (new_item n.that (with_word theirs y) ∷ n.earlier)
          ∙ ap (λ h. told h n.later ++ (told_by (behind f n.earlier) n.that.instruction ++ told f n.earlier)) (placed theirs y)
          ∙ ap (λ l. l ++ (told_by (behind f n.earlier) n.that.instruction ++ told f n.earlier))
          (told_past n.later c c_between (put old m.0 y) (made theirs y) ∙ told_past n.later m n.leave old y)
          ∙ sym (told_append f n.later (n.that ∷ n.earlier))
          ∙ ap (told f) (sym n.split) in
          let told_later : (theirs : List ℕ) (y : ℕ) → told (behind f (d ∷ new theirs y)) later ≡ told b later =
          λ theirs y. ap (λ h. told h later) (behind_it theirs y)
          ∙ told_past later r leave (after theirs y) (applied o word y)
          ∙ told_past later c c_later (put b m.0 y) (made theirs y)
          ∙ told_past later m m_later b y in
          record {
            later = front;
            item = n.that;
            earlier = n.earlier;
            split = whole;
            with_word = with_word;
            fits = fits;
            untold = λ theirs y. ap (told f) (append_assoc later (d ∷ n.later) (new_item n.that (with_word theirs y) ∷ n.earlier))
                ∙ told_append f later (d ∷ new theirs y)
                ∙ ap (λ l. l ++ told f (d ∷ new theirs y)) (told_later theirs y)
                ∙ ap (λ l. told b later ++ (l ++ told f (new theirs y))) (silent (behind f (new theirs y)) ∙ sym (silent a))
                ∙ ap (λ l. told b later ++ (told_by a d.instruction ++ l)) (told_new theirs y)
                ∙ sym (told_append f later (d ∷ earlier))
                ∙ ap (told f) (sym split);
            elsewhere = λ theirs y j e.
                let p = not_those j r (filled n.that.instruction) e in
                let s = others j p.1 in
                ap (λ h. h j.0) (final theirs y)
                ∙ put_other (put (put (behind f before) m.0 y) c.0 (made theirs y)) r.0 (applied o word y) j.0 p.0
                ∙ put_other (put (behind f before) m.0 y) c.0 (made theirs y) j.0 s.1
                ∙ put_other (behind f before) m.0 y j.0 s.0;
            every = λ theirs w h. let y = k.every w h in (y.0, y.1, gives theirs y.0 ∙ y.2);
            only = λ theirs y z hy hz e. k.only y z hy hz (sym (gives theirs y) ∙ e ∙ gives theirs z);
          }

  -- a part of a digest
  digested : (later : List Did) (d : Did) (earlier : List Did) (digest nonce value : Reg) → before ≡ later ++ d ∷ earlier → AllLeave r later
      → d.instruction ≡ instr.Do (action.Hash digest nonce value) → has r (row digest.0 8) ≡ true
      → are_secret (instructions before ++ marked) (instructions earlier ++ marked) nonce.0 8 ≡ true → IsOfDigest f before r
  digested later d earlier digest nonce value split leave is part all_secret =
      record {
        later = later;
        made = d;
        earlier = earlier;
        digest = digest;
        nonce = nonce;
        value = value;
        split = split;
        is = is;
        part = part;
        kept = ap (λ l. behind f l r.0) split ∙ ap (λ h. h r.0) (behind_append f later (d ∷ earlier)) ∙ stays later r leave (behind f (d ∷ earlier));
        secret = λ n among.
            let e = both _ _ (secret_at (instructions before ++ marked) (instructions earlier ++ marked) nonce.0 8 n all_secret among) in
            let l = found n draws draws_fails marked ends earlier e.0 in
            let w = drawn_by n l.that.instruction (instructions l.earlier ++ marked) l.touched l.passed in
            record {
              between = l.later;
              drawn = l.that;
              first = l.earlier;
              register = w.register;
              split = l.split;
              is = w.is;
              same = w.same;
              left = all_left n l.later l.leave;
              unused = all_left n later (unused_since n later d earlier marked (ap (λ k. is_latest (instructions k ++ marked) n (instructions earlier ++ marked)) (sym split) ∙ e.1));
            };
      }

  by_action : (later : List Did) (d : Did) (earlier : List Did) → before ≡ later ++ d ∷ earlier → AllLeave r later → (i : Instr) → d.instruction ≡ i → touches r i ≡ true
      → left_blind (instructions before ++ marked) r i (instructions earlier ++ marked) ≡ true → IsHidden f before r ⊎ IsOfDigest f before r
  by_action later d earlier split leave (instr.Do (action.Own q)) is t e = inl (drawn later d earlier q split leave is (alone r q t))
  by_action later d earlier split leave (instr.Do (action.Apply o q x m)) is t e =
      let all : List Instr = instructions before ++ marked in
      let past : List Instr = instructions earlier ++ marked in
      let p = both (nat_eq r.0 q.0) _ e in
      let s = both (hides o) _ p.1 in
      let u = both (not (nat_eq x.0 m.0)) _ s.1 in
      let v = both (latest (deals all m) (since m past)) (is_latest all m past) u.1 in
      let m_later : AllLeave m later = unused_since m later d earlier marked (ap (λ k. is_latest (instructions k ++ marked) m past) (sym split) ∙ v.1) in
      inl (masked later d earlier o q x m split leave is (same_number r.0 q.0 p.0) s.0 (other_number x.0 m.0 (negated (nat_eq x.0 m.0) u.0)) m_later
      (found m (deals all m) (deals_fails all m) marked ends earlier v.0))
  by_action later d earlier split leave (instr.Do (action.Hash digest nonce value)) is t e =
      let p = both (has r (row digest.0 8)) _ e in
      let s = both (nat_lt nonce.0 4294967288) _ p.1 in
      inr (digested later d earlier digest nonce value split leave is p.0 s.1)
  by_action later d earlier split leave (instr.Do (action.Const q k)) is t e = absurd cc
  by_action later d earlier split leave (instr.Do (action.Copy q x)) is t e = absurd cc
  by_action later d earlier split leave (instr.Do (action.Shl q x k)) is t e = absurd cc
  by_action later d earlier split leave (instr.Do (action.Shr q x k)) is t e = absurd cc
  by_action later d earlier split leave (instr.Do (action.Mux q c x y)) is t e = absurd cc
  by_action later d earlier split leave (instr.Do (action.Triple p a b c)) is t e = absurd cc
  by_action later d earlier split leave (instr.Do (action.Bits p a b c)) is t e = absurd cc
  by_action later d earlier split leave (instr.Do (action.Pair p s x)) is t e = absurd cc
  by_action later d earlier split leave (instr.Do (action.Input q)) is t e = absurd cc
  by_action later d earlier split leave (instr.Do (action.Print q)) is t e = absurd cc
  by_action later d earlier split leave (instr.Do (action.Same x y)) is t e = absurd cc
  by_action later d earlier split leave (instr.Do (action.Zero q k)) is t e = absurd cc
  by_action later d earlier split leave (instr.Do (action.Get q x k i)) is t e = absurd cc
  by_action later d earlier split leave (instr.Do (action.Put x k i s)) is t e = absurd cc
  by_action later d earlier split leave (instr.Send p rs) is t e = absurd cc
  by_action later d earlier split leave (instr.Recv p rs) is t e = absurd cc
  by_action later d earlier split leave (instr.If g) is t e = absurd cc
  by_action later d earlier split leave instr.Else is t e = absurd cc
  by_action later d earlier split leave (instr.For k n) is t e = absurd cc
  by_action later d earlier split leave instr.End is t e = absurd cc

pub blind_hides : BlindWordsHide
blind_hides f marked before r ends words e =
    let n = found r (left_blind (instructions before ++ marked) r) (left_fails (instructions before ++ marked) r) marked ends before e in
    by_action f marked ends before r words n.later n.that n.earlier n.split n.leave n.that.instruction refl n.touched n.passed
