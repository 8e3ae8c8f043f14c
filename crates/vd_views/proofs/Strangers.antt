-- Of two hosts neither shares items with itself or with a third one, and a third one takes none.
use Rattle.std.proofs.Common.{◌≡◌, ◌≢◌, ◌⊎◌, inl, inr, ℕ, zero, suc, ◌+◌, ◌-◌, ◌*◌, ◌<◌, ◌≤◌, nat_eq, Bool, true, false, if◌then◌else◌, List, [], ◌∷◌, Some, refl, sym, ap, subst, ◌∙◌, arith}
use Rattle.std.specs.Prelude.{length}
use Rattle.std.proofs.lemmas.Bool.{eq-eqb}
use Rattle.std.proofs.lemmas.Bool.Decides.{eqb_tells}
use Rattle.vd_execution.specs.declared.instructions.Action.{Action}
use Rattle.vd_execution.specs.declared.instructions.Action.TheVariants as action
use Rattle.vd_execution.specs.declared.instructions.Act.{Act}
use Rattle.vd_execution.specs.declared.instructions.Act.TheVariants as act
use Rattle.vd_execution.specs.Step.{Source, Inputs, OwnWords, Triples, BitTriples, Pairs}
use Rattle.vd_execution.specs.World.{Tape}
use Rattle.vd_execution.specs.Joint.{Part, Joint, fresh, joint}
use Rattle.vd_execution.specs.Acts.{do_then, ActsAreWithin}
use Rattle.vd_execution.specs.Gadgets.{BySums, ByXors, Gadget, Alone, Tells, Shares, BothShare, Opens, Masked, Paired, acts_of_gadget, TakesNoPart, GadgetIsTidy}
use Rattle.vd_execution.specs.Plans.{Plan, Ends, Then, Branch, Loop, joint_of, PlanIsWithin, PlanIsTidy}
use Rattle.vd_deal_needs.specs.DealNeedsLawsNeeds.{source_of, one_of, greater, takes}
use Rattle.vd_deal_needs.proofs.Front.{most}
use Rattle.vd_base.specs.declared.protocols.Proto.{Proto}
use Rattle.vd_core.specs.declared.normal.NormalForm.{NormalForm}
use Rattle.vd_constraints.specs.declared.labels.Labels.{Labels}
use Rattle.vd_views.specs.Views.{IsIn, alone}
use Rattle.vd_views.specs.Sides.{AreBelow}
use Rattle.vd_views.specs.Explained.{IsOfTwo, plan_of}
use Rattle.vd_views.specs.Lengths.{Lengths, IsSeen, IsLongEnough}
use Rattle.vd_views.proofs.Theorem.{plan_is_tidy, all_declared}

not_same : (a b : ℕ) → a ≢ b → nat_eq a b ≡ false
not_same a b n = elim (eqb_tells a b) [ inl p ↦ absurd (n p.1) | inr p ↦ p.0 ]

nothing_either : (b : Bool) → ◌≡◌ {A = ℕ} (if b then 0 else 0) 0
nothing_either true = refl
nothing_either false = refl

-- ---- what holds of each gadget's acts holds of plans

module _ (g : ℕ) (s : Source) where
  -- an act takes nothing from the list at the host
  abbrev ActTakesNone : Act → Type 0
  ActTakesNone (act.Do h a) = ◌≡◌ {A = ℕ} (if nat_eq g h.0 then one_of (source_of a) s else 0) 0
  ActTakesNone (act.Msg a said b heard) = Unit {0}

  abbrev ActsTakeNone : List Act → Type 0
  ActsTakeNone [] = Unit {0}
  ActsTakeNone (x ∷ acts) = ActTakesNone x × ActsTakeNone acts

  acts_take_none : (acts : List Act) (rest : Joint) → ActsTakeNone acts → takes (do_then acts rest) g s ≡ takes rest g s
  acts_take_none [] rest none = refl
  acts_take_none (act.Do h a ∷ acts) rest none = ap (λ (n : ℕ). n + takes (do_then acts rest) g s) none.0 ∙ first_none (takes (do_then acts rest) g s) ∙ acts_take_none acts rest none.1
    where
      first_none : (n : ℕ) → 0 + n ≡ n
      first_none n = omega arith
  acts_take_none (act.Msg a said b heard ∷ acts) rest none = acts_take_none acts rest none.1

  no_greater : (a b c : ℕ) → a ≡ 0 → b ≡ 0 → c ≡ 0 → greater a b + c ≡ 0
  no_greater a b c x y z = omega (arith, x, y, z)

  no_turns : (n a c : ℕ) → a ≡ 0 → c ≡ 0 → n * a + c ≡ 0
  no_turns n a c x z = ap (λ k. n * k + c) x ∙ nothing n c z
    where
      nothing : (n c : ℕ) → c ≡ 0 → n * 0 + c ≡ 0
      nothing n c z = omega (arith, z)

  abbrev GadgetsTakeNone : Type 0
  GadgetsTakeNone = (ps : List Part) → AreBelow 2 ps → (x : Gadget) → GadgetIsTidy x → ActsAreWithin ps (acts_of_gadget x) → ActsTakeNone (acts_of_gadget x)

  plan_takes_none : GadgetsTakeNone → (ps : List Part) → AreBelow 2 ps → (plan : Plan Gadget) → PlanIsTidy plan → PlanIsWithin ps plan → takes (joint_of plan) g s ≡ 0
  plan_takes_none each ps two Ends tidy within = refl
  plan_takes_none each ps two (Then x rest) tidy within =
      acts_take_none (acts_of_gadget x) (joint_of rest) (each ps two x tidy.0 within.0) ∙ plan_takes_none each ps two rest tidy.1 within.1
  plan_takes_none each ps two (Branch qs first other rest) tidy within =
      let inner : AreBelow 2 qs = λ k t. two k (within.0 k t) in
      no_greater (takes (joint_of first) g s) (takes (joint_of other) g s) (takes (joint_of rest) g s)
      (plan_takes_none each qs inner first tidy.1.0 tidy.0.1) (plan_takes_none each qs inner other tidy.1.1.0 tidy.0.2) (plan_takes_none each ps two rest tidy.1.1.1 within.1)
  plan_takes_none each ps two (Loop qs count body rest) tidy within =
      let inner : AreBelow 2 qs = λ k t. two k (within.0 k t) in
      no_turns count (takes (joint_of body) g s) (takes (joint_of rest) g s) (plan_takes_none each qs inner body tidy.1.1.0 tidy.0.1) (plan_takes_none each ps two rest tidy.1.1.1 within.1)

  -- so no run takes any
  none_taken : GadgetsTakeNone → (ps : List Part) → AreBelow 2 ps → (plan : Plan Gadget) → PlanIsTidy plan → PlanIsWithin ps plan → (t : Tape) → (joint t (joint_of plan) fresh g).cursors s ≤ 0
  none_taken each ps two plan tidy within t =
      let e : takes (joint_of plan) g s ≡ 0 = plan_takes_none each ps two plan tidy within in
      let m : (joint t (joint_of plan) fresh g).cursors s ≤ 0 + takes (joint_of plan) g s = most t (joint_of plan) fresh g s in
      subst (λ (n : ℕ). (joint t (joint_of plan) fresh g).cursors s ≤ 0 + n) e m

-- ---- a third host

module _ (g : ℕ) (s : Source) (third : 2 ≤ g) where
  not_it : (h : ℕ) → h < 2 → nat_eq g h ≡ false
  not_it h low = not_same g h (λ e. omega (arith, third, low, e))

  third_acts : (ps : List Part) → AreBelow 2 ps → (acts : List Act) → ActsAreWithin ps acts → ActsTakeNone g s acts
  third_acts ps two [] within = tt
  third_acts ps two (act.Do h a ∷ acts) within =
      (ap (λ (b : Bool). let n : ℕ = if b then one_of (source_of a) s else 0 in n) (not_it h.0 (two h.0 within.0)), third_acts ps two acts within.1)
  third_acts ps two (act.Msg a said b heard ∷ acts) within = (tt, third_acts ps two acts within.1)

  third_takes_none : GadgetsTakeNone g s
  third_takes_none ps two x tidy within = third_acts ps two (acts_of_gadget x) within

-- ---- a list that a host shares with another number than that of its fellow

abbrev pub IsStranger : ℕ → Source → Type 0
IsStranger g Inputs = ⊥
IsStranger g OwnWords = ⊥
IsStranger g (Triples p) = p ≢ 1 - g
IsStranger g (BitTriples p) = p ≢ 1 - g
IsStranger g (Pairs p) = p ≢ 1 - g

module _ (g : ℕ) where
  -- no list of items that two hosts share
  own_none : (s : Source) → IsStranger g s → one_of (Some OwnWords) s ≡ 0
  own_none Inputs e = absurd e
  own_none OwnWords e = absurd e
  own_none (Triples p) e = refl
  own_none (BitTriples p) e = refl
  own_none (Pairs p) e = refl

  input_none : (s : Source) → IsStranger g s → one_of (Some Inputs) s ≡ 0
  input_none Inputs e = absurd e
  input_none OwnWords e = absurd e
  input_none (Triples p) e = refl
  input_none (BitTriples p) e = refl
  input_none (Pairs p) e = refl

  one_none : (p peer : ℕ) → p ≢ 1 - g → peer ≡ 1 - g → ◌≡◌ {A = ℕ} (if nat_eq p peer then 1 else 0) 0
  one_none p peer n e = ap (λ (b : Bool). let n : ℕ = if b then 1 else 0 in n) (not_same p peer (λ f. n (f ∙ e)))

  triple_none : (s : Source) → IsStranger g s → (peer : ℕ) → peer ≡ 1 - g → one_of (Some (Triples peer)) s ≡ 0
  triple_none Inputs e peer f = absurd e
  triple_none OwnWords e peer f = absurd e
  triple_none (Triples p) e peer f = one_none p peer e f
  triple_none (BitTriples p) e peer f = refl
  triple_none (Pairs p) e peer f = refl

  bits_none : (s : Source) → IsStranger g s → (peer : ℕ) → peer ≡ 1 - g → one_of (Some (BitTriples peer)) s ≡ 0
  bits_none Inputs e peer f = absurd e
  bits_none OwnWords e peer f = absurd e
  bits_none (Triples p) e peer f = refl
  bits_none (BitTriples p) e peer f = one_none p peer e f
  bits_none (Pairs p) e peer f = refl

  pair_none : (s : Source) → IsStranger g s → (peer : ℕ) → peer ≡ 1 - g → one_of (Some (Pairs peer)) s ≡ 0
  pair_none Inputs e peer f = absurd e
  pair_none OwnWords e peer f = absurd e
  pair_none (Triples p) e peer f = refl
  pair_none (BitTriples p) e peer f = refl
  pair_none (Pairs p) e peer f = one_none p peer e f

  -- whoever acts
  either_none : (h n : ℕ) → n ≡ 0 → ◌≡◌ {A = ℕ} (if nat_eq g h then n else 0) 0
  either_none h n e = ap (λ (k : ℕ). let m : ℕ = if nat_eq g h then k else 0 in m) e ∙ nothing_either (nat_eq g h)

  -- an item of two hosts is shared by the two
  shared_none : (h peer n : ℕ) → h < 2 → peer < 2 → h ≢ peer → (peer ≡ 1 - g → n ≡ 0) → ◌≡◌ {A = ℕ} (if nat_eq g h then n else 0) 0
  shared_none h peer n low less apart none = elim (eqb_tells g h) [
    | inl same ↦ either_none h n (none (let e : g ≡ h = same.1 in omega (arith, e, low, less, apart)))
    | inr differ ↦ ap (λ (b : Bool). let m : ℕ = if b then n else 0 in m) differ.0
  ]

module _ (g : ℕ) (s : Source) (strange : IsStranger g s) where
  alone_none : (a : Action) → TakesNoPart a → one_of (source_of a) s ≡ 0
  alone_none (action.Const r k) t = refl
  alone_none (action.Copy r x) t = refl
  alone_none (action.Apply o r x y) t = refl
  alone_none (action.Shl r x k) t = refl
  alone_none (action.Shr r x k) t = refl
  alone_none (action.Mux r c x y) t = refl
  alone_none (action.Own r) t = own_none g s strange
  alone_none (action.Triple p a b c) t = absurd t
  alone_none (action.Bits p a b c) t = absurd t
  alone_none (action.Pair p a b) t = absurd t
  alone_none (action.Input r) t = input_none g s strange
  alone_none (action.Print r) t = refl
  alone_none (action.Hash d n v) t = refl
  alone_none (action.Same x y) t = refl
  alone_none (action.Zero r count) t = refl
  alone_none (action.Get r x count i) t = refl
  alone_none (action.Put x count i q) t = refl

  abbrev Mine : ℕ → ℕ → Type 0
  Mine h n = ◌≡◌ {A = ℕ} (if nat_eq g h then n else 0) 0

  none : (h : ℕ) → Mine h 0
  none h = nothing_either (nat_eq g h)

  own : (h : ℕ) → Mine h (one_of (Some OwnWords) s)
  own h = either_none g h (one_of (Some OwnWords) s) (own_none g s strange)

  stranger_takes_none : GadgetsTakeNone g s
  stranger_takes_none ps two (Alone h a) tidy within = (either_none g h.0 (one_of (source_of a) s) (alone_none a tidy), tt)
  stranger_takes_none ps two (Tells a said b heard) tidy within = (tt, tt)
  stranger_takes_none ps two (Shares a r b heard) tidy within = (own a.0, (tt, tt))
  stranger_takes_none ps two (BothShare a r heard b q heard_b) tidy within = (own a.0, (own b.0, (tt, (tt, tt))))
  stranger_takes_none ps two (Opens sharing a x b y heard) tidy within = (tt, tt)
  stranger_takes_none ps two (Masked BySums m n) tidy within =
      let low : m.host.0 < 2 = two m.host.0 within.0 in
      let less : n.host.0 < 2 = two n.host.0 within.1.1.1.0 in
      let one : Mine m.host.0 (one_of (Some (Triples n.host.0)) s) = shared_none g m.host.0 n.host.0 (one_of (Some (Triples n.host.0)) s) low less tidy.0 (triple_none g s strange n.host.0) in
      let other : Mine n.host.0 (one_of (Some (Triples m.host.0)) s) = shared_none g n.host.0 m.host.0 (one_of (Some (Triples m.host.0)) s) less low (λ e. tidy.0 (sym e)) (triple_none g s strange m.host.0) in
      (one, (none m.host.0, (none m.host.0, (other, (none n.host.0, (none n.host.0, (tt, (tt, tt))))))))
  stranger_takes_none ps two (Masked ByXors m n) tidy within =
      let low : m.host.0 < 2 = two m.host.0 within.0 in
      let less : n.host.0 < 2 = two n.host.0 within.1.1.1.0 in
      let one : Mine m.host.0 (one_of (Some (BitTriples n.host.0)) s) = shared_none g m.host.0 n.host.0 (one_of (Some (BitTriples n.host.0)) s) low less tidy.0 (bits_none g s strange n.host.0) in
      let other : Mine n.host.0 (one_of (Some (BitTriples m.host.0)) s) = shared_none g n.host.0 m.host.0 (one_of (Some (BitTriples m.host.0)) s) less low (λ e. tidy.0 (sym e)) (bits_none g s strange m.host.0) in
      (one, (none m.host.0, (none m.host.0, (other, (none n.host.0, (none n.host.0, (tt, (tt, tt))))))))
  stranger_takes_none ps two (Paired p q) tidy within =
      let low : p.host.0 < 2 = two p.host.0 within.0 in
      let less : q.host.0 < 2 = two q.host.0 within.1.0 in
      let one : Mine p.host.0 (one_of (Some (Pairs q.host.0)) s) = shared_none g p.host.0 q.host.0 (one_of (Some (Pairs q.host.0)) s) low less tidy (pair_none g s strange q.host.0) in
      let other : Mine q.host.0 (one_of (Some (Pairs p.host.0)) s) = shared_none g q.host.0 p.host.0 (one_of (Some (Pairs p.host.0)) s) less low (λ e. tidy (sym e)) (pair_none g s strange p.host.0) in
      (one, (other, tt))

-- ---- a program of two hosts

pub strangers_take_none : (p : NormalForm) (l : Labels) (protocols : List Proto) → IsOfTwo p l protocols → (g : ℕ) (s : Source) → (2 ≤ g) ⊎ IsStranger g s → (t : Tape)
    → (joint t (joint_of (plan_of p protocols)) fresh g).cursors s ≤ 0
strangers_take_none p l protocols of_two g s who t = at who
  where
    declared : (ps : List Part) × (AreBelow (length p.hosts) ps × PlanIsWithin ps (plan_of p protocols))
    declared = all_declared p l protocols of_two.free.chosen

    two : AreBelow 2 declared.0
    two = subst (λ n. AreBelow n declared.0) of_two.hosts declared.1.0

    at : (2 ≤ g) ⊎ IsStranger g s → (joint t (joint_of (plan_of p protocols)) fresh g).cursors s ≤ 0
    at (inl high) = none_taken g s (third_takes_none g s high) declared.0 two (plan_of p protocols) (plan_is_tidy p l protocols of_two.free.chosen) declared.1.1 t
    at (inr strange) = none_taken g s (stranger_takes_none g s strange) declared.0 two (plan_of p protocols) (plan_is_tidy p l protocols of_two.free.chosen) declared.1.1 t

pub below_two : (g : ℕ) → (g < 2) ⊎ (2 ≤ g)
below_two zero = inl (omega arith)
below_two (suc zero) = inl (omega arith)
below_two (suc (suc g)) = inr (omega arith)

-- a run that takes no item past the end of a list that counts for one of them takes none past the end of any
module _ (p : NormalForm) (l : Labels) (protocols : List Proto) (of_two : IsOfTwo p l protocols) (h : ℕ) (low : h < 2) (n : Lengths) (y : Tape) (long : IsLongEnough (alone h) n (plan_of p protocols) y) where
  abbrev IsWithin : ℕ → Source → Type 0
  IsWithin g s = (joint y (joint_of (plan_of p protocols)) fresh g).cursors s ≤ n g s

  takes_none : (g : ℕ) (s : Source) → (2 ≤ g) ⊎ IsStranger g s → IsWithin g s
  takes_none g s who = let z : (joint y (joint_of (plan_of p protocols)) fresh g).cursors s ≤ 0 = strangers_take_none p l protocols of_two g s who y in omega (arith, z)

  one_looks : (g q : ℕ) → g < 2 → q ≡ 1 - g → IsIn (alone h) g ⊎ IsIn (alone h) q
  one_looks g q less e = at (eqb_tells g h)
    where
      at : ((nat_eq g h ≡ true) × (g ≡ h)) ⊎ ((nat_eq g h ≡ false) × (g ≢ h)) → IsIn (alone h) g ⊎ IsIn (alone h) q
      at (inl same) = inl same.0
      at (inr differ) = inr (eq-eqb q h (let apart : g ≢ h = differ.1 in omega (arith, less, low, e, apart)))

  of_kind : (g q : ℕ) (s : Source) → (q ≢ 1 - g → IsStranger g s) → (IsIn (alone h) g ⊎ IsIn (alone h) q → IsSeen (alone h) g s) → IsWithin g s
  of_kind g q s strange counts = at (below_two g) (eqb_tells q (1 - g))
    where
      at : (g < 2) ⊎ (2 ≤ g) → ((nat_eq q (1 - g) ≡ true) × (q ≡ 1 - g)) ⊎ ((nat_eq q (1 - g) ≡ false) × (q ≢ 1 - g)) → IsWithin g s
      at (inr high) with_it = takes_none g s (inl high)
      at (inl less) (inl same) = long.takes g s (counts (one_looks g q less same.1))
      at (inl less) (inr differ) = takes_none g s (inr (strange differ.1))

  pub all_within : (g : ℕ) (s : Source) → s ≢ Inputs → IsWithin g s
  all_within g Inputs not = absurd (not refl)
  all_within g OwnWords not = long.takes g OwnWords tt
  all_within g (Triples q) not = of_kind g q (Triples q) (λ e. e) (λ x. x)
  all_within g (BitTriples q) not = of_kind g q (BitTriples q) (λ e. e) (λ x. x)
  all_within g (Pairs q) not = of_kind g q (Pairs q) (λ e. e) (λ x. x)

-- what counts is no input
pub seen_item : (h g : ℕ) (s : Source) → IsSeen (alone h) g s → s ≢ Inputs
seen_item h g Inputs x = absurd x
seen_item h g OwnWords x = λ e. cc
seen_item h g (Triples q) x = λ e. cc
seen_item h g (BitTriples q) x = λ e. cc
seen_item h g (Pairs q) x = λ e. cc
