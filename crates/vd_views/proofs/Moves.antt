-- The moves of the suite: a host is told the word where it comes to have it in clear, and else nothing openly but own words, and what a
-- host of the coalition says that is bound by a commitment.
use Rattle.std.proofs.Common.{◌≡◌, ◌≢◌, ℕ, ◌<◌, nat_eq, Bool, true, false, IsTrue, is_some, List, [], ◌∷◌, ◌⊎◌, inl, inr, refl, sym, subst, subst₂}
use Rattle.std.specs.Prelude.{slice_index}
use Rattle.vd_base.specs.declared.ids.HostId.{HostId}
use Rattle.vd_base.specs.declared.protocols.HostSet.{HostSet}
use Rattle.vd_base.specs.declared.protocols.Proto.{Proto}
use Rattle.vd_base.specs.declared.protocols.Proto.TheVariants.{Local, Rep, Commit, Add, Xor}
use Rattle.vd_base.specs.declared.operations.Op.TheVariants as op
use Rattle.vd_base.specs.HostSets.{host, same_host, is_pair}
use Rattle.vd_base.specs.Moves.{move_if, same_hosts, is_either}
use Rattle.vd_base.specs.Holders.{holders}
use Rattle.vd_execution.specs.declared.instructions.Action.TheVariants as action
use Rattle.vd_execution.specs.World.{Tape}
use Rattle.vd_execution.specs.Joint.{Hosts}
use Rattle.vd_execution.specs.Gadgets.{BySums, ByXors, Gadget}
use Rattle.vd_duet.specs.Builder.{taken}
use Rattle.vd_duet.specs.Laws.{IsHost, IsReady, Copies, Operand}
use Rattle.vd_duet.proofs.Front.{taken_other}
use Rattle.vd_clear.specs.Copies.{clear_calls}
use Rattle.vd_clear.proofs.Front.{copies_of}
use Rattle.vd_backend_sharing.specs.PairCalls.{adopted_shares, shares_of, shared_from}
use Rattle.vd_backend_sharing.proofs.Front.{Parts, parts_of}
use Rattle.vd_words.specs.AddCalls.{add_serves, add_apply}
use Rattle.vd_bits.specs.BitCalls.{circuit_shares}
use Rattle.vd_circuit.specs.CircuitCalls.{circuit_serves}
use Rattle.vd_convert.specs.Convert.{to_xor_made, to_add_made}
use Rattle.vd_split.specs.Suite.{Ready, Operand as AnyOperand}
use Rattle.vd_split.proofs.Front.{and_left, and_right, or_cases}
use Rattle.vd_backend_laws.specs.Commits.{held_of, seen_of}
use Rattle.vd_backend_laws.specs.Moves.{only}
use Rattle.vd_backend_laws.specs.Parts.{Parts as SlotParts, has_back_end, back_end, suite_calls}
use Rattle.vd_backend_laws.specs.Suite.{IsOver, joins}
use Rattle.vd_backend_laws.proofs.Front.{M, S, ready_at, operand_at, sole, equal_of, in_order, ordered_differ, members_of_pair}
use Rattle.vd_views.specs.Views.{Coalition, IsIn}
use Rattle.vd_views.specs.Sides.{AreKin, Telling, HasClear, IsOpenAt}
use Rattle.vd_views.proofs.Sides.{telling_quiet}
use Rattle.vd_views.proofs.Ordinary.{AreOrdinary, all_quiet}
use Rattle.vd_views.proofs.Usual.{share_ordinary, to_xor_ordinary}
use Rattle.vd_views.proofs.Bound.{bound_tells, revealed_tells, shown_bound_tells}
use Rattle.vd_views.proofs.Clear.{passed_tells, shown_tells, spread_tells}
use Rattle.vd_views.proofs.Pairs.{shown_tells as pair_shown, all_shown_tells}
use Rattle.vd_views.proofs.ToSums.{to_add_tells}

-- ---- what joins

if_holds : (b : Bool) (cost : ℕ) → IsTrue (is_some (move_if b cost)) → b ≡ true
if_holds true cost e = refl
if_holds false cost e = cc

same_two : (a b c d : HostId) (cost : ℕ) → IsTrue (is_some (move_if (same_hosts a b c d) cost)) → (a.0 ≡ c.0) × (b.0 ≡ d.0)
same_two a b c d cost j =
    let e = if_holds (same_hosts a b c d) cost j in
    (equal_of a.0 c.0 (and_left (same_host a c) (same_host b d) e), equal_of b.0 d.0 (and_right (same_host a c) (same_host b d) e))

-- a word is opened to the first host, or to the second
opened_to : (k a b : HostId) → IsTrue (is_some (move_if (is_either k a b) 5)) → nat_eq k.0 a.0 ≡ false → k.0 ≡ b.0
opened_to k a b j other = at (or_cases (same_host k a) (same_host k b) (if_holds (is_either k a b) 5 j))
  where
    opposite : (z : Bool) → z ≡ true → z ≡ false → ⊥
    opposite true p q = cc
    opposite false p q = cc

    at : (same_host k a ≡ true) ⊎ (same_host k b ≡ true) → k.0 ≡ b.0
    at (inl i) = absurd (opposite (same_host k a) i other)
    at (inr i) = equal_of k.0 b.0 i

-- both hosts are members of their pair
of_pair : (set : HostSet) (a b : HostId) → (a.0 < b.0) × (b.0 < 8) → IsTrue (is_some (move_if (is_pair set a b) 10)) → (h : ℕ) → (a.0 ≡ h) ⊎ (b.0 ≡ h) → IsHost (holders (Rep set)) h
of_pair set a b o j h i = subst (λ (l : List HostId). IsHost l h) (sym (members_of_pair set a b o (if_holds (is_pair set a b) 10 j))) (at i)
  where
    at : (a.0 ≡ h) ⊎ (b.0 ≡ h) → IsHost (a ∷ b ∷ []) h
    at (inl e) = inl (sym e)
    at (inr e) = inr (inl (sym e))

-- ---- every move

module _ (K : Coalition) (t y : Tape) (kin : AreKin K t y) (inputs others : ℕ → List ℕ) (hosts : ℕ) where
  -- a slot's word in both runs
  pub record AreMoved (p : Proto) (x : SlotParts) (next : List ℕ) (w v : Hosts) (c d : ℕ) : Type 0 where
    pub ready : Ready (M t inputs hosts) (S t inputs hosts) next w
    pub ready_too : Ready (M y others hosts) (S y others hosts) next v
    pub first : AnyOperand (M t inputs hosts) (S t inputs hosts) next w p x c
    pub second : AnyOperand (M y others hosts) (S y others hosts) next v p x d

  module _ (p : Proto) (e : has_back_end p ≡ true) (over : IsOver hosts p) (is : (back_end p).proto ≡ p) (x : SlotParts) (next : List ℕ) (w v : Hosts) (c d : ℕ) (moved : AreMoved p x next w v c d) where
    at_first : Operand (back_end p) next w x.at c
    at_first = operand_at t inputs hosts (back_end p) next w p x c e is moved.first

    at_second : Operand (back_end p) next v x.at d
    at_second = operand_at y others hosts (back_end p) next v p x d e is moved.second

    ready_first : IsReady (back_end p) t next w
    ready_first = ready_at t inputs hosts kin.first (back_end p) next w p is over moved.ready

    ready_second : IsReady (back_end p) y next v
    ready_second = ready_at y others hosts kin.second (back_end p) next v p is over moved.ready_too

  -- one host has the word
  module _ (a : HostId) (over : IsOver hosts (Local a)) (x : SlotParts) (next : List ℕ) (w v : Hosts) (c d : ℕ) (moved : AreMoved (Local a) x next w v c d) where
    held : ((w a.0).registers (only x.at).0 ≡ c) × ((v a.0).registers (only x.at).0 ≡ d)
    held =
        let o = at_first (Local a) refl over refl x next w v c d moved in
        let o' = at_second (Local a) refl over refl x next w v c d moved in
        ((sole (clear_calls (Local a)) a next w x.at c refl o.stands.at o).here, (sole (clear_calls (Local a)) a next v x.at d refl o'.stands.at o').here)

    from_one : (q : Proto) → IsOpenAt K q → ((g : ℕ) → IsIn K g → HasClear g q → c ≡ d) → Telling K t y ((suite_calls hosts).move (Local a) q x next).acts w v
    from_one (Local k) f same = passed_tells K t y kin a (only x.at) c d (holders (Local k)) next w v held (λ g m i. same g m (alone g i))
      where
        alone : (g : ℕ) → (g ≡ k.0) ⊎ ⊥ → g ≡ k.0
        alone g (inl e) = e
        alone g (inr e) = absurd e
    from_one (Rep set) f same = passed_tells K t y kin a (only x.at) c d (holders (Rep set)) next w v held same
    from_one (Commit u z) f same = bound_tells K t y kin u z (only x.at) next w v f
    from_one (Add u z) f same = telling_quiet K t y kin (shared_from BySums u z a (only x.at) next).gadgets w v (all_quiet (shared_from BySums u z a (only x.at) next).gadgets (share_ordinary BySums u z a (only x.at) next))
    from_one (Xor u z) f same = telling_quiet K t y kin (shared_from ByXors u z a (only x.at) next).gadgets w v (all_quiet (shared_from ByXors u z a (only x.at) next).gadgets (share_ordinary ByXors u z a (only x.at) next))

  -- copies
  module _ (set : HostSet) (over : IsOver hosts (Rep set)) (x : SlotParts) (next : List ℕ) (w v : Hosts) (c d : ℕ) (moved : AreMoved (Rep set) x next w v c d) where
    copied : Copies w x.at c
    copied = copies_of (Rep set) tt w x.at c (at_first (Rep set) refl over refl x next w v c d moved).stands

    copied_too : Copies v x.at d
    copied_too = copies_of (Rep set) tt v x.at d (at_second (Rep set) refl over refl x next w v c d moved).stands

    from_copies : (q : Proto) → IsOpenAt K q → ((g : ℕ) → IsIn K g → HasClear g q → c ≡ d) → Telling K t y ((suite_calls hosts).move (Rep set) q x next).acts w v
    from_copies (Local k) f same = (shown_tells K t y kin c d x.at k next w v copied copied_too (λ i. same k.0 i refl)).tells
    from_copies (Rep other) f same = spread_tells K t y kin c d x.at (holders (Rep other)) next w v copied copied_too same
    from_copies (Commit u z) f same = λ both tidy hides owns. tt
    from_copies (Add u z) f same =
        let gs : List Gadget = (adopted_shares u z x.at next).gadgets in
        let ordinary : AreOrdinary gs = (tt, tt) in
        telling_quiet K t y kin gs w v (all_quiet gs ordinary)
    from_copies (Xor u z) f same =
        let gs : List Gadget = (adopted_shares u z x.at next).gadgets in
        let ordinary : AreOrdinary gs = (tt, tt) in
        telling_quiet K t y kin gs w v (all_quiet gs ordinary)

  -- the word of copies at both, where either is inside
  told_to_both : (set : HostSet) (a b : HostId) → (a.0 < b.0) × (b.0 < 8) → IsTrue (is_some (move_if (is_pair set a b) 10)) → (c d : ℕ) → ((g : ℕ) → IsIn K g → IsHost (holders (Rep set)) g → c ≡ d)
      → IsIn K a.0 ⊎ IsIn K b.0 → c ≡ d
  told_to_both set a b o j c d same (inl i) = same a.0 i (of_pair set a b o j a.0 (inl refl))
  told_to_both set a b o j c d same (inr i) = same b.0 i (of_pair set a b o j b.0 (inr refl))

  second_low : (a b : HostId) → a.0 ≢ b.0 → (next : List ℕ) (r : ℕ) → r < slice_index next b.0 → r < slice_index (taken a 2 next) b.0
  second_low a b apart next r lt = subst (λ z. r < z) (sym (taken_other a 2 next b.0 (λ e. apart (sym e)))) lt

  -- sums
  module _ (a b : HostId) (over : IsOver hosts (Add a b)) (x : SlotParts) (next : List ℕ) (w v : Hosts) (c d : ℕ) (moved : AreMoved (Add a b) x next w v c d) where
    summed : Parts BySums a b next w (shares_of x.at) c
    summed = parts_of a b add_serves (add_apply a b) BySums next w x.at c (at_first (Add a b) refl over refl x next w v c d moved)

    summed_too : Parts BySums a b next v (shares_of x.at) d
    summed_too = parts_of a b add_serves (add_apply a b) BySums next v x.at d (at_second (Add a b) refl over refl x next w v c d moved)

    from_sums : (q : Proto) → IsOpenAt K q → IsTrue (joins (Add a b) q) → ((g : ℕ) → IsIn K g → HasClear g q → c ≡ d) → Telling K t y ((suite_calls hosts).move (Add a b) q x next).acts w v
    from_sums (Local k) f j same =
        pair_shown K t y kin BySums a b (ordered_differ a b over.ordered) (shares_of x.at) c d k (opened_to k a b j) next w v summed.word summed_too.word (λ i. same k.0 i refl)
    from_sums (Rep set) f j same =
        let apart = ordered_differ a b over.ordered in
        all_shown_tells K t y kin BySums a b apart (shares_of x.at) c d next (second_low a b apart next (shares_of x.at).second.0 summed.second_low) w v summed.word summed_too.word
        (λ i. told_to_both set a b (in_order a b over.ordered) j c d same i)
    from_sums (Commit u z) f j same = λ both tidy hides owns. tt
    from_sums (Add u z) f j same = λ both tidy hides owns. tt
    from_sums (Xor u z) f j same = telling_quiet K t y kin (to_xor_made u z x.at next).gadgets w v (all_quiet (to_xor_made u z x.at next).gadgets (to_xor_ordinary u z x.at next))

  -- exclusive or
  module _ (a b : HostId) (over : IsOver hosts (Xor a b)) (x : SlotParts) (next : List ℕ) (w v : Hosts) (c d : ℕ) (moved : AreMoved (Xor a b) x next w v c d) where
    xored : Parts ByXors a b next w (shares_of x.at) c
    xored = parts_of a b circuit_serves (circuit_shares a b) ByXors next w x.at c (at_first (Xor a b) refl over refl x next w v c d moved)

    xored_too : Parts ByXors a b next v (shares_of x.at) d
    xored_too = parts_of a b circuit_serves (circuit_shares a b) ByXors next v x.at d (at_second (Xor a b) refl over refl x next w v c d moved)

    converted : Telling K t y (to_add_made a b x.at next).gadgets w v
    converted =
        let o = at_first (Xor a b) refl over refl x next w v c d moved in
        let o' = at_second (Xor a b) refl over refl x next w v c d moved in
        let r = ready_first (Xor a b) refl over refl x next w v c d moved in
        let r' = ready_second (Xor a b) refl over refl x next w v c d moved in
        to_add_tells a b (ordered_differ a b over.ordered) next x.at K t y kin w v (record { deal = r.deal; sound = r.sound; known = r.known }) (record { deal = r'.deal; sound = r'.sound; known = r'.known }) c d
        (record { below = o.below; stands = record { at = o.stands.at; word = o.stands.word } }) (record { below = o'.below; stands = record { at = o'.stands.at; word = o'.stands.word } })

    from_xors : (q : Proto) → IsOpenAt K q → IsTrue (joins (Xor a b) q) → ((g : ℕ) → IsIn K g → HasClear g q → c ≡ d) → Telling K t y ((suite_calls hosts).move (Xor a b) q x next).acts w v
    from_xors (Local k) f j same =
        pair_shown K t y kin ByXors a b (ordered_differ a b over.ordered) (shares_of x.at) c d k (opened_to k a b j) next w v xored.word xored_too.word (λ i. same k.0 i refl)
    from_xors (Rep set) f j same =
        let apart = ordered_differ a b over.ordered in
        all_shown_tells K t y kin ByXors a b apart (shares_of x.at) c d next (second_low a b apart next (shares_of x.at).second.0 xored.second_low) w v xored.word xored_too.word
        (λ i. told_to_both set a b (in_order a b over.ordered) j c d same i)
    from_xors (Commit u z) f j same = λ both tidy hides owns. tt
    from_xors (Add u z) f j same =
        let e = same_two a b u z 210 j in
        subst₂ (λ (m n : ℕ). Telling K t y (to_add_made (host m) (host n) x.at next).gadgets w v) e.0 e.1 converted
    from_xors (Xor u z) f j same = λ both tidy hides owns. tt

  -- a commitment: who is told the word and the nonce is told by the host that is bound
  from_bound : (a b : HostId) → (IsIn K b.0 → IsIn K a.0) → (q : Proto) → (x : SlotParts) (next : List ℕ) (w v : Hosts) → Telling K t y ((suite_calls hosts).move (Commit a b) q x next).acts w v
  from_bound a b e (Local k) x next w v = shown_bound_tells K t y kin a b x.at k next w v e
  from_bound a b e (Rep set) x next w v = revealed_tells K t y kin a b (held_of x.at) (seen_of x.at) next w v e
  from_bound a b e (Commit u z) x next w v = λ both tidy hides owns. tt
  from_bound a b e (Add u z) x next w v =
      let gs : List Gadget = (adopted_shares u z x.at next).gadgets in
      let ordinary : AreOrdinary gs = (tt, tt) in
      telling_quiet K t y kin gs w v (all_quiet gs ordinary)
  from_bound a b e (Xor u z) x next w v =
      let gs : List Gadget = (adopted_shares u z x.at next).gadgets in
      let ordinary : AreOrdinary gs = (tt, tt) in
      telling_quiet K t y kin gs w v (all_quiet gs ordinary)

  pub move_tells : (p q : Proto) → IsOpenAt K p → IsOpenAt K q → IsOver hosts p → IsTrue (joins p q) → (x : SlotParts) (next : List ℕ) (w v : Hosts) (c d : ℕ) → AreMoved p x next w v c d
      → ((g : ℕ) → IsIn K g → HasClear g q → c ≡ d) → Telling K t y ((suite_calls hosts).move p q x next).acts w v
  move_tells (Local a) q e f over j x next w v c d moved same = from_one a over x next w v c d moved q f same
  move_tells (Rep set) q e f over j x next w v c d moved same = from_copies set over x next w v c d moved q f same
  move_tells (Commit u z) q e f over j x next w v c d moved same = from_bound u z e q x next w v
  move_tells (Add a b) q e f over j x next w v c d moved same = from_sums a b over x next w v c d moved q f j same
  move_tells (Xor a b) q e f over j x next w v c d moved same = from_xors a b over x next w v c d moved q f j same
