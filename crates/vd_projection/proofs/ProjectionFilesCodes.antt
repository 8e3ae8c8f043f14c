-- Each instruction of the code of a host can stand in its file.
use Rattle.std.proofs.Common.{◌≡◌, ◌≢◌, ℕ, zero, suc, ◌<◌, ◌≤◌, nat_eq, Bool, true, false, if◌then◌else◌, List, [], ◌∷◌, ◌⊎◌, inl, inr, refl, sym, subst, arith}
use Rattle.std.proofs.lemmas.Bool.{eqb-true}
use Rattle.vd_base.specs.declared.ids.HostId.{HostId}
use Rattle.vd_execution.specs.declared.instructions.Reg.{Reg}
use Rattle.vd_execution.specs.declared.instructions.Action.{Action}
use Rattle.vd_execution.specs.declared.instructions.Action.TheVariants as action
use Rattle.vd_execution.specs.declared.instructions.Act.{Act}
use Rattle.vd_execution.specs.declared.instructions.Act.TheVariants as act
use Rattle.vd_execution.specs.Acts.{do_then, ActsAreWithin}
use Rattle.vd_execution.specs.Code.{Code, Then as ThenDo, Send, Recv, Choose, Repeat}
use Rattle.vd_execution.specs.Gadgets.{Sharing, BySums, ByXors, Gadget, Alone, Tells, Shares, BothShare, Opens, Masked, Paired, hide, take, acts_of_gadget, TakesNoPart, GadgetIsTidy}
use Rattle.vd_execution.specs.Joint.{Part, Joint, if_part, code_of, TakesPart, Within}
use Rattle.vd_execution.specs.Plans.{Plan, Ends, Then, Branch, Loop, joint_of, PlanIsWithin, PlanIsTidy}
use Rattle.vd_execution.specs.Ranges.{ActionFits}
use Rattle.vd_execution.proofs.Front.{same_or_not}
use Rattle.vd_duet.specs.Laws.{Each}
use Rattle.vd_projection.specs.Fits.{PacketFits, ActFits, GadgetFits}
use Rattle.vd_projection.proofs.Fits.{PlanFits}
use Rattle.vd_projection.proofs.Few.{GadgetIsSmall}
use Rattle.vd_projection.proofs.FewBlocks.{PlanIsSmall}
use Rattle.vd_projection.proofs.Registers.{bound}
use Rattle.vd_projection.proofs.Instrs.{AllCanStand, IsPeer, PeerIsOther, ConstantIsWord, ActionStands, action_stands, send_stands, recv_stands, if_stands, for_stands}

-- ---- what a host does by itself

alone_peer : (hosts h : ℕ) (a : Action) → TakesNoPart a → PeerIsOther hosts h a
alone_peer hosts h (action.Const r k) n = tt
alone_peer hosts h (action.Copy r x) n = tt
alone_peer hosts h (action.Apply o r x y) n = tt
alone_peer hosts h (action.Shl r x k) n = tt
alone_peer hosts h (action.Shr r x k) n = tt
alone_peer hosts h (action.Mux r c x y) n = tt
alone_peer hosts h (action.Own r) n = tt
alone_peer hosts h (action.Triple p a b c) n = absurd n
alone_peer hosts h (action.Bits p a b c) n = absurd n
alone_peer hosts h (action.Pair p s x) n = absurd n
alone_peer hosts h (action.Input r) n = tt
alone_peer hosts h (action.Print r) n = tt
alone_peer hosts h (action.Hash d m v) n = tt
alone_peer hosts h (action.Same x y) n = tt
alone_peer hosts h (action.Zero r count) n = tt
alone_peer hosts h (action.Get r x count i) n = tt
alone_peer hosts h (action.Put x count i s) n = tt

alone_constant : (a : Action) → TakesNoPart a → ConstantIsWord a
alone_constant (action.Const r k) n = n
alone_constant (action.Copy r x) n = tt
alone_constant (action.Apply o r x y) n = tt
alone_constant (action.Shl r x k) n = tt
alone_constant (action.Shr r x k) n = tt
alone_constant (action.Mux r c x y) n = tt
alone_constant (action.Own r) n = tt
alone_constant (action.Triple p a b c) n = tt
alone_constant (action.Bits p a b c) n = tt
alone_constant (action.Pair p s x) n = tt
alone_constant (action.Input r) n = tt
alone_constant (action.Print r) n = tt
alone_constant (action.Hash d m v) n = tt
alone_constant (action.Same x y) n = tt
alone_constant (action.Zero r count) n = tt
alone_constant (action.Get r x count i) n = tt
alone_constant (action.Put x count i s) n = tt

module _ (hosts : ℕ) (few : hosts ≤ 4) where
  abbrev ActStands : Act → Type 0
  ActStands (act.Do k a) = ActionStands hosts k.0 a
  ActStands (act.Msg p said q heard) = IsPeer hosts p.0 q × (IsPeer hosts q.0 p × (PacketFits bound said × PacketFits bound heard))

  message : (p q : HostId) (said heard : List Reg) → p.0 ≢ q.0 → ActFits hosts bound (act.Msg p said q heard) → ActStands (act.Msg p said q heard)
  message p q said heard apart f = (record { declared = f.1; other = λ e. apart (sym e) }, (record { declared = f.0; other = apart }, (f.2, f.3)))

  taken : (s : Sharing) (h : ℕ) (p : HostId) (a b c : Reg) → IsPeer hosts h p → ActionFits bound (take s p a b c) → ActionStands hosts h (take s p a b c)
  taken BySums h p a b c i f = record { fits = f; small = tt; peer = i; constant = tt }
  taken ByXors h p a b c i f = record { fits = f; small = tt; peer = i; constant = tt }

  applied : (s : Sharing) (h : ℕ) (r x y : Reg) → ActionFits bound (action.Apply (hide s) r x y) → ActionStands hosts h (action.Apply (hide s) r x y)
  applied s h r x y f = record { fits = f; small = tt; peer = tt; constant = tt }

  own : (h : ℕ) (r : Reg) → ActionFits bound (action.Own r) → ActionStands hosts h (action.Own r)
  own h r f = record { fits = f; small = tt; peer = tt; constant = tt }

  gadget_stands : (ps : List Part) → ((h : ℕ) → TakesPart ps h → h < hosts) → (g : Gadget) → GadgetFits hosts bound g → GadgetIsTidy g → GadgetIsSmall g
      → ActsAreWithin ps (acts_of_gadget g) → Each ActStands (acts_of_gadget g)
  gadget_stands ps known (Alone h a) f tidy small within = (record { fits = f.0; small = small; peer = alone_peer hosts h.0 a tidy; constant = alone_constant a tidy }, tt)
  gadget_stands ps known (Tells a said b heard) f tidy small within = (message a b said heard tidy.0 f.0, tt)
  gadget_stands ps known (Shares a r b heard) f tidy small within = (own a.0 r f.0, (message a b (r ∷ []) (heard ∷ []) tidy f.1.0, tt))
  gadget_stands ps known (BothShare a r heard b q heard_b) f tidy small within = (
    own a.0 r f.0,
    (own b.0 q f.1.0, (message a b (r ∷ []) (heard_b ∷ []) tidy.0 f.1.1.0, (message b a (q ∷ []) (heard ∷ []) (λ e. tidy.0 (sym e)) f.1.1.1.0, tt))),
  )
  gadget_stands ps known (Opens sharing a x b y heard) f tidy small within = (message a b (x ∷ []) (heard ∷ []) tidy f.0, tt)
  gadget_stands ps known (Masked s m n) f tidy small within =
      let said = f.1.1.1.1.1.1.0 in
      let first : IsPeer hosts m.host.0 n.host = record { declared = said.1; other = λ e. tidy.0 (sym e) } in
      let second : IsPeer hosts n.host.0 m.host = record { declared = said.0; other = tidy.0 } in (
        taken s m.host.0 n.host m.a m.b m.c first f.0,
        (
          applied s m.host.0 m.d m.x m.a f.1.0,
          (
            applied s m.host.0 m.e m.y m.b f.1.1.0,
            (
              taken s n.host.0 m.host n.a n.b n.c second f.1.1.1.0,
              (
                applied s n.host.0 n.d n.x n.a f.1.1.1.1.0,
                (
                  applied s n.host.0 n.e n.y n.b f.1.1.1.1.1.0,
                  (
                    message m.host n.host (m.d ∷ m.e ∷ []) (n.heard_d ∷ n.heard_e ∷ []) tidy.0 said,
                    (message n.host m.host (n.d ∷ n.e ∷ []) (m.heard_d ∷ m.heard_e ∷ []) (λ e. tidy.0 (sym e)) f.1.1.1.1.1.1.1.0, tt),
                  ),
                ),
              ),
            ),
          ),
        ),
      )
  gadget_stands ps known (Paired p q) f tidy small within = (
    record { fits = f.0; small = tt; peer = record { declared = known q.host.0 within.1.0; other = λ e. tidy (sym e) }; constant = tt },
    (record { fits = f.1.0; small = tt; peer = record { declared = known p.host.0 within.0; other = tidy }; constant = tt }, tt),
  )

  -- ---- the code of one host

  module _ (h : ℕ) where
    abbrev Stands : Code → Type 0
    Stands = AllCanStand hosts h

    acts_stand : (acts : List Act) (j : Joint) → Each ActStands acts → Stands (code_of h j) → Stands (code_of h (do_then acts j))
    acts_stand [] j f c = c
    acts_stand (act.Do k a ∷ acts) j f c = at (nat_eq h k.0) refl (acts_stand acts j f.1 c)
      where
        at : (b : Bool) → nat_eq h k.0 ≡ b → Stands (code_of h (do_then acts j)) → Stands (if b then ThenDo a (code_of h (do_then acts j)) else code_of h (do_then acts j))
        at true e rest = (action_stands hosts h a few (subst (λ (n : ℕ). ActionStands hosts n a) (sym (eqb-true h k.0 e)) f.0), rest)
        at false e rest = rest
    acts_stand (act.Msg p said q heard ∷ acts) j f c = at (nat_eq h p.0) (nat_eq h q.0) refl refl (acts_stand acts j f.1 c)
      where
        at : (a b : Bool) → nat_eq h p.0 ≡ a → nat_eq h q.0 ≡ b → Stands (code_of h (do_then acts j))
            → Stands (if a then Send q.0 said (code_of h (do_then acts j)) else (if b then Recv p.0 heard (code_of h (do_then acts j)) else code_of h (do_then acts j)))
        at true b e i rest = (send_stands hosts h q said few (subst (λ (n : ℕ). IsPeer hosts n q) (sym (eqb-true h p.0 e)) f.0.0) f.0.1.1.0, rest)
        at false true e i rest = (recv_stands hosts h p heard few (subst (λ (n : ℕ). IsPeer hosts n p) (sym (eqb-true h q.0 i)) f.0.1.0) f.0.1.1.1, rest)
        at false false e i rest = rest

    part_stands : (ps : List Part) (f : ℕ → Code) (a : Code) → Each (λ (p : ℕ × ℕ). p.1 < bound) ps → ((r : ℕ) → r < bound → Stands (f r)) → Stands a → Stands (if_part ps h f a)
    part_stands [] f a e g c = c
    part_stands (p ∷ ps) f a e g c = at (nat_eq h p.0) (part_stands ps f a e.1 g c)
      where
        at : (b : Bool) → Stands (if_part ps h f a) → Stands (if b then f p.1 else if_part ps h f a)
        at true rest = g p.1 e.0
        at false rest = rest

    pub plan_stands : (d : ℕ) (ps : List Part) → ((k : ℕ) → TakesPart ps k → k < hosts) → (plan : Plan Gadget) → PlanFits hosts bound d plan → PlanIsTidy plan → PlanIsSmall plan
        → PlanIsWithin ps plan → Stands (code_of h (joint_of plan))
    plan_stands d ps known Ends f tidy small within = tt
    plan_stands d ps known (Then g rest) f tidy small within =
        acts_stand (acts_of_gadget g) (joint_of rest) (gadget_stands ps known g f.0 tidy.0 small.0 within.0) (plan_stands d ps known rest f.1 tidy.1 small.1 within.1)
    plan_stands d ps known (Branch qs first other rest) f tidy small within =
        let inner : (k : ℕ) → TakesPart qs k → k < hosts = λ k t. known k (within.0 k t) in
        let one = plan_stands f.1.0 qs inner first f.1.2 tidy.1.0 small.0 tidy.0.1 in
        let two = plan_stands f.1.0 qs inner other f.1.3 tidy.1.1.0 small.1.0 tidy.0.2 in
        let more = plan_stands d ps known rest f.2 tidy.1.1.1 small.1.1 within.1 in
        part_stands qs (λ guard. Choose guard (code_of h (joint_of first)) (code_of h (joint_of other)) (code_of h (joint_of rest))) (code_of h (joint_of rest)) f.0
        (λ r lt. (if_stands hosts h r lt, (one, (two, more)))) more
    plan_stands d ps known (Loop qs count body rest) f tidy small within =
        let inner : (k : ℕ) → TakesPart qs k → k < hosts = λ k t. known k (within.0 k t) in
        let one = plan_stands f.1.0 qs inner body f.1.2 tidy.1.1.0 small.1.0 tidy.0.1 in
        let more = plan_stands d ps known rest f.2 tidy.1.1.1 small.1.1 within.1 in
        part_stands qs (λ counter. Repeat counter 0 count (code_of h (joint_of body)) (code_of h (joint_of rest))) (code_of h (joint_of rest)) f.0
        (λ r lt. (for_stands hosts h r count lt small.0, (one, more))) more

-- ---- all that act are declared

abbrev pub parts_below : ℕ → List Part
parts_below zero = []
parts_below (suc n) = (n, 0) ∷ parts_below n

pub takes_below : (n h : ℕ) → h < n → TakesPart (parts_below n) h
takes_below zero h lt = absurd (omega (arith, lt))
takes_below (suc n) h lt = at (λ l. takes_below n h l) (same_or_not h n)
  where
    at : (h < n → TakesPart (parts_below n) h) → (h ≡ n) ⊎ (h ≢ n) → TakesPart (parts_below (suc n)) h
    at again (inl e) = inl e
    at again (inr d) = inr (again (omega (arith, lt, d)))

pub below_takes : (n h : ℕ) → TakesPart (parts_below n) h → h < n
below_takes zero h t = absurd t
below_takes (suc n) h (inl e) = omega (arith, e)
below_takes (suc n) h (inr t) = let lt = below_takes n h t in omega (arith, lt)

acts_within : (ps : List Part) (acts : List Act) (j : Joint) → Within ps (do_then acts j) → ActsAreWithin ps acts × Within ps j
acts_within ps [] j w = (tt, w)
acts_within ps (act.Do k a ∷ acts) j w = let rest = acts_within ps acts j w.1 in ((w.0, rest.0), rest.1)
acts_within ps (act.Msg p said q heard ∷ acts) j w = let rest = acts_within ps acts j w.1.1 in (((w.0, w.1.0), rest.0), rest.1)

pub plan_within : (ps : List Part) (plan : Plan Gadget) → Within ps (joint_of plan) → PlanIsWithin ps plan
plan_within ps Ends w = tt
plan_within ps (Then g rest) w = let one = acts_within ps (acts_of_gadget g) (joint_of rest) w in (one.0, plan_within ps rest one.1)
plan_within ps (Branch qs first other rest) w = (w.0, plan_within ps rest w.1)
plan_within ps (Loop qs count body rest) w = (w.0, plan_within ps rest w.1)
