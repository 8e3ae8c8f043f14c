-- Plans in two runs: how many own words are taken, and that they look alike to the coalition afterwards.
use Rattle.std.proofs.Common.{◌≡◌, ◌≢◌, ℕ, zero, suc, Bool, true, false, if◌then◌else◌, nat_eq, List, [], ◌∷◌, ◌++◌, ◌⊎◌, inl, inr, refl, sym, ap, subst, ◌∙◌}
use Rattle.vd_base.specs.declared.ids.HostId.{HostId}
use Rattle.vd_execution.specs.declared.instructions.Action.{Action}
use Rattle.vd_execution.specs.declared.instructions.Action.TheVariants as action
use Rattle.vd_execution.specs.declared.instructions.Reg.{Reg}
use Rattle.vd_execution.specs.declared.instructions.Act.{Act}
use Rattle.vd_execution.specs.Registers.{Registers}
use Rattle.vd_execution.specs.Step.{OwnWords, Cursors, Nothing, Unequal, need_of_action, advanced}
use Rattle.vd_execution.specs.World.{Tape}
use Rattle.vd_execution.specs.Joint.{Part, TakesPart, Host, Hosts, acted, after_do, after_msg, is_other, turn_begun, turns, joint, IsSmooth}
use Rattle.vd_execution.specs.Acts.{run_acts, ActsAreWithin}
use Rattle.vd_execution.specs.Gadgets.{Sharing, BySums, ByXors, Masking, hide, masking, told_by, Gadget, Alone, Tells, Shares, BothShare, Opens, Masked, Paired, acts_of_gadget, GadgetIsTidy}
use Rattle.vd_execution.specs.Plans.{Plan, Ends, Then, Branch, Loop, joint_of, PlanIsWithin, PlanIsTidy}
use Rattle.vd_execution.proofs.Front.{runs_first, same_or_not, put_same, put_other, plan_sound, plan_tidy}
use Rattle.vd_views.specs.Views.{Coalition, IsOut, Concerns, LookAlike, BothTurns}
use Rattle.vd_views.specs.Hiding.{Crosses, GadgetHides}
use Rattle.vd_views.specs.Plans.{run_branch, run_turn, PlanHides, PlanKnows, PlanChooses}
use Rattle.vd_views.proofs.Coalitions.{all_outside, concerns_or_not, never_both}
use Rattle.vd_views.proofs.Blocks.{told_the_same}
use Rattle.vd_views.proofs.Counts.{CountsAlike, acts_count}
use Rattle.vd_views.proofs.Frames.{msg_cursors}
use Rattle.vd_views.proofs.Plans.{begun_cursors, plan_tells}
use Rattle.vd_views.proofs.Hiding.{run_append}
use Rattle.vd_views.specs.Sides.{AreKin, Both, IsPlainAction, IsPlain, PlanIsPlain, TakesNoOwn, PlanTakesNoOwn, OwnsInSight, OnlyOutside, AreBelow}

-- ---- both runs look alike after a plan

plan_alike : (K : Coalition) (t y : Tape) → AreKin K t y → (plan : Plan Gadget) → PlanIsTidy plan → (w v : Hosts) → Both K w v → IsSmooth t (joint_of plan) w → IsSmooth y (joint_of plan) v
    → PlanHides K t y plan w v → PlanKnows K t y plan w v → LookAlike K (joint t (joint_of plan) w) (joint y (joint_of plan) v)
plan_alike K t y kin plan tidy w v b sw sv hides knows h i =
    told_the_same h t y (kin.part h i) (joint_of plan) (plan_tidy plan tidy) w v sw sv (b.looks h i)
    (plan_tells K t y kin.first kin.second kin.part plan tidy w v b.first b.second b.looks sw sv hides knows h i)

-- ---- a plan in which no host of the coalition takes part

module _ (K : Coalition) (ps : List Part) (out : Concerns ps K → ⊥) where
  outside : (a : ℕ) → TakesPart ps a → IsOut K a
  outside a i = all_outside ps K out a i

  idle_gadget : (t y : Tape) (g : Gadget) → ActsAreWithin ps (acts_of_gadget g) → (w v : Hosts) → GadgetHides K t y g w v
  idle_gadget t y (Alone k a) i w v = tt
  idle_gadget t y (Tells a said b heard) i w v = tt
  idle_gadget t y (Shares a r b heard) i w v = tt
  idle_gadget t y (BothShare a r heard b q heard_b) i w v = tt
  idle_gadget t y (Opens sharing a x b z heard) i w v = tt
  idle_gadget t y (Masked sharing m n) i w v = ((λ e o. never_both K n.host.0 e (outside n.host.0 i.1.1.1.0)), (λ e o. never_both K m.host.0 e (outside m.host.0 i.0)))
  idle_gadget t y (Paired p q) i w v = λ e. absurd (either e)
    where
      either : Crosses K p.host.0 q.host.0 → ⊥
      either (inl e) = never_both K p.host.0 e.0 (outside p.host.0 i.0)
      either (inr e) = never_both K q.host.0 e.0 (outside q.host.0 i.1.0)

  pub inner : (qs : List Part) → ((h : ℕ) → TakesPart qs h → TakesPart ps h) → Concerns qs K → ⊥
  inner qs i c = out (c.0, (c.1.0, i c.0 c.1.1))

  pub idle_hides : (t y : Tape) (plan : Plan Gadget) → PlanIsWithin ps plan → (w v : Hosts) → PlanHides K t y plan w v
  idle_hides t y Ends i w v = tt
  idle_hides t y (Then g rest) i w v = (idle_gadget t y g i.0 w v, idle_hides t y rest i.1 (run_acts t (acts_of_gadget g) w) (run_acts y (acts_of_gadget g) v))
  idle_hides t y (Branch qs first other rest) i w v = ((λ c. absurd (inner qs i.0 c)), idle_hides t y rest i.1 (run_branch qs first other t w) (run_branch qs first other y v))
  idle_hides t y (Loop qs count body rest) i w v = ((λ c. absurd (inner qs i.0 c)), idle_hides t y rest i.1 (turns (run_turn qs body t) count 0 w) (turns (run_turn qs body y) count 0 v))

-- ---- own words

compared : (b : Bool) (p q : ℕ) (c : Cursors) → advanced c (if b then Nothing else Unequal p q) OwnWords ≡ c OwnWords
compared true p q c = refl
compared false p q c = refl

plain_action : (f : Registers) (a : Action) (c : Cursors) → IsPlainAction a → advanced c (need_of_action f a) OwnWords ≡ c OwnWords
plain_action f (action.Const r n) c p = refl
plain_action f (action.Copy r x) c p = refl
plain_action f (action.Apply o r x y) c p = refl
plain_action f (action.Shl r x n) c p = refl
plain_action f (action.Shr r x n) c p = refl
plain_action f (action.Mux r q x y) c p = refl
plain_action f (action.Own r) c p = absurd p
plain_action f (action.Triple k x y z) c p = refl
plain_action f (action.Bits k x y z) c p = refl
plain_action f (action.Pair k x y) c p = refl
plain_action f (action.Input r) c p = refl
plain_action f (action.Print r) c p = refl
plain_action f (action.Hash q n v) c p = refl
plain_action f (action.Same x y) c p = compared (nat_eq (f x.0) (f y.0)) (f x.0) (f y.0) c
plain_action f (action.Zero r count) c p = refl
plain_action f (action.Get r x count i) c p = refl
plain_action f (action.Put x count i y) c p = refl

abbrev TakesNone : Hosts → Hosts → Type 0
TakesNone w v = (g : ℕ) → (v g).cursors OwnWords ≡ (w g).cursors OwnWords

alone_takes : (t : Tape) (k : HostId) (a : Action) (w : Hosts) → IsPlainAction a → TakesNone w (after_do t k.0 a w)
alone_takes t k a w p g = at (same_or_not g k.0)
  where
    at : (g ≡ k.0) ⊎ (g ≢ k.0) → (after_do t k.0 a w g).cursors OwnWords ≡ (w g).cursors OwnWords
    at (inl e) =
        let P : ℕ → Type 0 = λ q. (after_do t k.0 a w q).cursors OwnWords ≡ (w q).cursors OwnWords in
        subst P (sym e) (ap (λ (s : Host). s.cursors OwnWords) (put_same w k.0 (acted (t k.0) a (w k.0))) ∙ plain_action (w k.0).registers a (w k.0).cursors p)
    at (inr n) = ap (λ (s : Host). s.cursors OwnWords) (put_other w k.0 (acted (t k.0) a (w k.0)) g n)

tell_takes : (a : ℕ) (said : List Reg) (b : ℕ) (heard : List Reg) (w : Hosts) → TakesNone w (after_msg a said b heard w)
tell_takes a said b heard w g = ap (λ (c : Cursors). c OwnWords) (msg_cursors a said b heard w g)

takes_on : (w v x : Hosts) → TakesNone w v → TakesNone v x → TakesNone w x
takes_on w v x a b g = b g ∙ a g

either_takes : (b : Bool) (w v x : Hosts) → TakesNone w v → TakesNone w x → TakesNone w (if b then v else x)
either_takes true w v x p q = p
either_takes false w v x p q = q

turns_take : (turn : ℕ → Hosts → Hosts) → ((i : ℕ) (v : Hosts) → TakesNone v (turn i v)) → (n i : ℕ) (v : Hosts) → TakesNone v (turns turn n i v)
turns_take turn step zero i v = λ g. refl
turns_take turn step (suc n) i v = takes_on v (turn i v) (turns turn n (suc i) (turn i v)) (step i v) (turns_take turn step n (suc i) (turn i v))

masking_takes_none : (t : Tape) (sharing : Sharing) (m : Masking) (peer : HostId) (w : Hosts) → TakesNone w (run_acts t (masking sharing m peer) w)
masking_takes_none t BySums m peer w =
    let one : Hosts = after_do t m.host.0 (action.Triple peer m.a m.b m.c) w in
    let two : Hosts = after_do t m.host.0 (action.Apply (hide BySums) m.d m.x m.a) one in
    let three : Hosts = after_do t m.host.0 (action.Apply (hide BySums) m.e m.y m.b) two in
    takes_on w one three (alone_takes t m.host (action.Triple peer m.a m.b m.c) w tt)
    (takes_on one two three (alone_takes t m.host (action.Apply (hide BySums) m.d m.x m.a) one tt) (alone_takes t m.host (action.Apply (hide BySums) m.e m.y m.b) two tt))
masking_takes_none t ByXors m peer w =
    let one : Hosts = after_do t m.host.0 (action.Bits peer m.a m.b m.c) w in
    let two : Hosts = after_do t m.host.0 (action.Apply (hide ByXors) m.d m.x m.a) one in
    let three : Hosts = after_do t m.host.0 (action.Apply (hide ByXors) m.e m.y m.b) two in
    takes_on w one three (alone_takes t m.host (action.Bits peer m.a m.b m.c) w tt)
    (takes_on one two three (alone_takes t m.host (action.Apply (hide ByXors) m.d m.x m.a) one tt) (alone_takes t m.host (action.Apply (hide ByXors) m.e m.y m.b) two tt))

gadget_takes : (t : Tape) (g : Gadget) → TakesNoOwn g → (w : Hosts) → TakesNone w (run_acts t (acts_of_gadget g) w)
gadget_takes t (Alone k a) none w = alone_takes t k a w none
gadget_takes t (Tells a said b heard) none w = tell_takes a.0 said b.0 heard w
gadget_takes t (Shares a r b heard) none w = absurd none
gadget_takes t (BothShare a r heard b q heard_b) none w = absurd none
gadget_takes t (Opens sharing a x b y heard) none w = tell_takes a.0 (x ∷ []) b.0 (heard ∷ []) w
gadget_takes t (Masked sharing m n) none w =
    let one : Hosts = run_acts t (masking sharing m n.host) w in
    let two : Hosts = run_acts t (masking sharing n m.host) one in
    let three : Hosts = run_acts t (told_by m n) two in
    let P : Hosts → Type 0 = λ x. TakesNone w x in
    subst P
    (sym (run_append t (masking sharing m n.host) (masking sharing n m.host ++ (told_by m n ++ told_by n m)) w ∙ run_append t (masking sharing n m.host) (told_by m n ++ told_by n m) one ∙ run_append t (told_by m n) (told_by n m) two))
    (takes_on w one (run_acts t (told_by n m) three) (masking_takes_none t sharing m n.host w)
    (takes_on one two (run_acts t (told_by n m) three) (masking_takes_none t sharing n m.host one)
    (takes_on two three (run_acts t (told_by n m) three) (tell_takes m.host.0 (m.d ∷ m.e ∷ []) n.host.0 (n.heard_d ∷ n.heard_e ∷ []) two) (tell_takes n.host.0 (n.d ∷ n.e ∷ []) m.host.0 (m.heard_d ∷ m.heard_e ∷ []) three))))
gadget_takes t (Paired p q) none w =
    let one : Hosts = after_do t p.host.0 (action.Pair q.host p.s p.x) w in
    let two : Hosts = after_do t q.host.0 (action.Pair p.host q.s q.x) one in
    takes_on w one two (alone_takes t p.host (action.Pair q.host p.s p.x) w tt) (alone_takes t q.host (action.Pair p.host q.s q.x) one tt)

-- a plan that takes no own word
plan_takes : (t : Tape) (plan : Plan Gadget) → PlanTakesNoOwn plan → (w : Hosts) → TakesNone w (joint t (joint_of plan) w)
plan_takes t Ends none w = λ g. refl
plan_takes t (Then g rest) none w =
    let xs : List Act = acts_of_gadget g in
    let P : Hosts → Type 0 = λ x. TakesNone w x in
    subst P (sym (runs_first t xs (joint_of rest) w))
    (takes_on w (run_acts t xs w) (joint t (joint_of rest) (run_acts t xs w)) (gadget_takes t g none.0 w) (plan_takes t rest none.1 (run_acts t xs w)))
plan_takes t (Branch qs first other rest) none w =
    let u : Hosts = run_branch qs first other t w in
    takes_on w u (joint t (joint_of rest) u)
    (either_takes (is_other qs w) w (joint t (joint_of other) w) (joint t (joint_of first) w) (plan_takes t other none.1.0 w) (plan_takes t first none.0 w))
    (plan_takes t rest none.1.1 u)
plan_takes t (Loop qs count body rest) none w =
    let u : Hosts = turns (run_turn qs body t) count 0 w in
    takes_on w u (joint t (joint_of rest) u)
    (turns_take (run_turn qs body t) (λ i x. takes_on x (turn_begun qs i x) (run_turn qs body t i x) (λ g. begun_cursors qs i x g OwnWords) (plan_takes t body none.0 (turn_begun qs i x))) count 0 w)
    (plan_takes t rest none.1 u)

both_chosen : (R : Hosts → Hosts → Type 0) (b d : Bool) → b ≡ d → (w0 w1 v0 v1 : Hosts) → (b ≡ true → R w0 v0) → (b ≡ false → R w1 v1)
    → R (if b then w0 else w1) (if d then v0 else v1)
both_chosen R b d e w0 w1 v0 v1 first second =
    let P : Bool → Type 0 = λ x. R (if b then w0 else w1) (if x then v0 else v1) in
    subst P e (at b first second)
  where
    at : (x : Bool) → (x ≡ true → R w0 v0) → (x ≡ false → R w1 v1) → R (if x then w0 else w1) (if x then v0 else v1)
    at true f g = f refl
    at false f g = g refl

both_take : (w x v z : Hosts) → CountsAlike OwnWords w v → TakesNone w x → TakesNone v z → CountsAlike OwnWords x z
both_take w x v z e p q g = p g ∙ e g ∙ sym (q g)

turns_own : (t y : Tape) (ps : List Part) (body : Plan Gadget) (Chosen : Hosts → Hosts → Type 0)
    → ((w v : Hosts) → Chosen w v → CountsAlike OwnWords w v → CountsAlike OwnWords (joint t (joint_of body) w) (joint y (joint_of body) v))
    → (n i : ℕ) (w v : Hosts)
    → BothTurns (λ j p q. Chosen (turn_begun ps j p) (turn_begun ps j q)) (run_turn ps body t) (run_turn ps body y) n i w v
    → CountsAlike OwnWords w v → CountsAlike OwnWords (turns (run_turn ps body t) n i w) (turns (run_turn ps body y) n i v)
turns_own t y ps body Chosen ih zero i w v c e = e
turns_own t y ps body Chosen ih (suc n) i w v c e =
    turns_own t y ps body Chosen ih n (suc i) (run_turn ps body t i w) (run_turn ps body y i v) c.1
    (ih (turn_begun ps i w) (turn_begun ps i v) c.0 (λ g. begun_cursors ps i w g OwnWords ∙ e g ∙ sym (begun_cursors ps i v g OwnWords)))

no_choice : (P : Hosts → Hosts → Type 0) → ((w v : Hosts) → P w v) → (ps : List Part) (f g : ℕ → Hosts → Hosts) (n i : ℕ) (w v : Hosts) → BothTurns (λ j p q. P (turn_begun ps j p) (turn_begun ps j q)) f g n i w v
no_choice P all ps f g zero i w v = tt
no_choice P all ps f g (suc n) i w v = (all (turn_begun ps i w) (turn_begun ps i v), no_choice P all ps f g n (suc i) (f i w) (g i v))

silent_branch : (t y : Tape) (qs : List Part) (first other : Plan Gadget) → PlanTakesNoOwn first × PlanTakesNoOwn other → (w v : Hosts) → CountsAlike OwnWords w v
    → CountsAlike OwnWords (run_branch qs first other t w) (run_branch qs first other y v)
silent_branch t y qs first other none w v e =
    both_take w (run_branch qs first other t w) v (run_branch qs first other y v) e
    (either_takes (is_other qs w) w (joint t (joint_of other) w) (joint t (joint_of first) w) (plan_takes t other none.1 w) (plan_takes t first none.0 w))
    (either_takes (is_other qs v) v (joint y (joint_of other) v) (joint y (joint_of first) v) (plan_takes y other none.1 v) (plan_takes y first none.0 v))

-- a plan in which no host of the coalition takes part: own words are taken outside of branches alone
silent_owns : (K : Coalition) (t y : Tape) (plan : Plan Gadget) → OwnsInSight K plan → PlanIsTidy plan → (ps : List Part) → PlanIsWithin ps plan → (Concerns ps K → ⊥) → (w v : Hosts)
    → CountsAlike OwnWords w v → CountsAlike OwnWords (joint t (joint_of plan) w) (joint y (joint_of plan) v)
silent_owns K t y Ends sight tidy ps within out w v e = e
silent_owns K t y (Then g rest) sight tidy ps within out w v e =
    let xs : List Act = acts_of_gadget g in
    let P : Hosts → Type 0 = λ x. CountsAlike OwnWords x (joint y (joint_of (Then g rest)) v) in
    let Q : Hosts → Type 0 = λ x. CountsAlike OwnWords (joint t (joint_of rest) (run_acts t xs w)) x in
    subst P (sym (runs_first t xs (joint_of rest) w))
    (subst Q (sym (runs_first y xs (joint_of rest) v))
    (silent_owns K t y rest sight tidy.1 ps within.1 out (run_acts t xs w) (run_acts y xs v) (λ g. acts_count t y xs OwnWords w v e g)))
silent_owns K t y (Branch qs first other rest) sight tidy ps within out w v e =
    silent_owns K t y rest sight.1.1.1 tidy.1.1.1 ps within.1 out (run_branch qs first other t w) (run_branch qs first other y v) (at sight.0)
  where
    at : Concerns qs K ⊎ (PlanTakesNoOwn first × PlanTakesNoOwn other) → CountsAlike OwnWords (run_branch qs first other t w) (run_branch qs first other y v)
    at (inl c) = absurd (inner K ps out qs within.0 c)
    at (inr none) = silent_branch t y qs first other none w v e
silent_owns K t y (Loop qs count body rest) sight tidy ps within out w v e =
    silent_owns K t y rest sight.1 tidy.1.1.1 ps within.1 out (turns (run_turn qs body t) count 0 w) (turns (run_turn qs body y) count 0 v)
    (turns_own t y qs body (λ p q. Unit {0}) (λ p q _ d. silent_owns K t y body sight.0 tidy.1.1.0 qs tidy.0.1 (inner K ps out qs within.0) p q d)
    count 0 w v (no_choice (λ p q. Unit {0}) (λ p q. tt) qs (run_turn qs body t) (run_turn qs body y) count 0 w v) e)

-- two runs in which the coalition reads the same guards take equally many own words
pub plan_owns : (K : Coalition) (t y : Tape) (plan : Plan Gadget) → OwnsInSight K plan → PlanIsTidy plan → (w v : Hosts) → PlanChooses K t y plan w v
    → CountsAlike OwnWords w v → CountsAlike OwnWords (joint t (joint_of plan) w) (joint y (joint_of plan) v)
plan_owns K t y Ends sight tidy w v c e = e
plan_owns K t y (Then g rest) sight tidy w v c e =
    let xs : List Act = acts_of_gadget g in
    let P : Hosts → Type 0 = λ x. CountsAlike OwnWords x (joint y (joint_of (Then g rest)) v) in
    let Q : Hosts → Type 0 = λ x. CountsAlike OwnWords (joint t (joint_of rest) (run_acts t xs w)) x in
    subst P (sym (runs_first t xs (joint_of rest) w))
    (subst Q (sym (runs_first y xs (joint_of rest) v))
    (plan_owns K t y rest sight tidy.1 (run_acts t xs w) (run_acts y xs v) c.1 (λ g. acts_count t y xs OwnWords w v e g)))
plan_owns K t y (Branch qs first other rest) sight tidy w v c e =
    plan_owns K t y rest sight.1.1.1 tidy.1.1.1 (run_branch qs first other t w) (run_branch qs first other y v) c.1
    (at (λ i. plan_owns K t y other sight.1.1.0 tidy.1.1.0 w v i e) (λ i. plan_owns K t y first sight.1.0 tidy.1.0 w v i e) sight.0)
  where
    at : (PlanChooses K t y other w v → CountsAlike OwnWords (joint t (joint_of other) w) (joint y (joint_of other) v))
        → (PlanChooses K t y first w v → CountsAlike OwnWords (joint t (joint_of first) w) (joint y (joint_of first) v))
        → Concerns qs K ⊎ (PlanTakesNoOwn first × PlanTakesNoOwn other) → CountsAlike OwnWords (run_branch qs first other t w) (run_branch qs first other y v)
    at i_other i_first (inl q) =
        both_chosen (λ x z. CountsAlike OwnWords x z) (is_other qs w) (is_other qs v) (c.0 q).0 (joint t (joint_of other) w) (joint t (joint_of first) w) (joint y (joint_of other) v) (joint y (joint_of first) v)
        (λ i. i_other ((c.0 q).1.0 i)) (λ i. i_first ((c.0 q).1.1 i))
    at i_other i_first (inr none) = silent_branch t y qs first other none w v e
plan_owns K t y (Loop qs count body rest) sight tidy w v c e =
    plan_owns K t y rest sight.1 tidy.1.1.1 (turns (run_turn qs body t) count 0 w) (turns (run_turn qs body y) count 0 v) c.1
    (at (λ p q i d. plan_owns K t y body sight.0 tidy.1.1.0 p q i d) (concerns_or_not qs K))
  where
    at : ((p q : Hosts) → PlanChooses K t y body p q → CountsAlike OwnWords p q → CountsAlike OwnWords (joint t (joint_of body) p) (joint y (joint_of body) q))
        → Concerns qs K ⊎ (Concerns qs K → ⊥) → CountsAlike OwnWords (turns (run_turn qs body t) count 0 w) (turns (run_turn qs body y) count 0 v)
    at ih (inl q) = turns_own t y qs body (λ p z. PlanChooses K t y body p z) ih count 0 w v (c.0 q) e
    at ih (inr out) =
        turns_own t y qs body (λ p q. Unit {0}) (λ p q _ d. silent_owns K t y body sight.0 tidy.1.1.0 qs tidy.0.1 out p q d)
        count 0 w v (no_choice (λ p q. Unit {0}) (λ p q. tt) qs (run_turn qs body t) (run_turn qs body y) count 0 w v) e

-- both runs go on side by side after a plan
pub plan_both : (K : Coalition) (t y : Tape) → AreKin K t y → (plan : Plan Gadget) → PlanIsTidy plan → (w v : Hosts) → Both K w v
    → IsSmooth t (joint_of plan) w → IsSmooth y (joint_of plan) v → PlanHides K t y plan w v → PlanKnows K t y plan w v
    → Both K (joint t (joint_of plan) w) (joint y (joint_of plan) v)
plan_both K t y kin plan tidy w v b sw sv hides knows = record {
  first = plan_sound t kin.first plan tidy w b.first;
  second = plan_sound y kin.second plan tidy v b.second;
  looks = plan_alike K t y kin plan tidy w v b sw sv hides knows;
}

-- ---- where one host alone is outside

module _ (K : Coalition) (n k : ℕ) (only : OnlyOutside K n k) where
  -- of two hosts that differ one is inside
  not_both : (ps : List Part) → AreBelow n ps → (Concerns ps K → ⊥) → (a b : ℕ) → TakesPart ps a → TakesPart ps b → a ≢ b → ⊥
  not_both ps below out a b i j ne = ne (only a (below a i) (all_outside ps K out a i) ∙ sym (only b (below b j) (all_outside ps K out b j)))

  gadget_alone : (ps : List Part) → AreBelow n ps → (Concerns ps K → ⊥) → (g : Gadget) → GadgetIsTidy g → IsPlain K g → ActsAreWithin ps (acts_of_gadget g) → TakesNoOwn g
  gadget_alone ps below out (Alone h a) tidy plain i = plain (all_outside ps K out h.0 i.0)
  gadget_alone ps below out (Tells a said b heard) tidy plain i = tt
  gadget_alone ps below out (Shares a r b heard) tidy plain i = not_both ps below out a.0 b.0 i.0 i.1.0.1 tidy
  gadget_alone ps below out (BothShare a r heard b q heard_b) tidy plain i = not_both ps below out a.0 b.0 i.0 i.1.0 tidy.0
  gadget_alone ps below out (Opens sharing a x b y heard) tidy plain i = tt
  gadget_alone ps below out (Masked sharing m n) tidy plain i = tt
  gadget_alone ps below out (Paired p q) tidy plain i = tt

  below_inner : (ps qs : List Part) → AreBelow n ps → ((h : ℕ) → TakesPart qs h → TakesPart ps h) → AreBelow n qs
  below_inner ps qs below i h q = below h (i h q)

  plan_alone : (ps : List Part) → AreBelow n ps → (Concerns ps K → ⊥) → (plan : Plan Gadget) → PlanIsTidy plan → PlanIsPlain K plan → PlanIsWithin ps plan → PlanTakesNoOwn plan
  plan_alone ps below out Ends tidy plain within = tt
  plan_alone ps below out (Then g rest) tidy plain within = (gadget_alone ps below out g tidy.0 plain.0 within.0, plan_alone ps below out rest tidy.1 plain.1 within.1)
  plan_alone ps below out (Branch qs first other rest) tidy plain within =
      let none : Concerns qs K → ⊥ = inner K ps out qs within.0 in
      let few : AreBelow n qs = below_inner ps qs below within.0 in
      (plan_alone qs few none first tidy.1.0 plain.0 tidy.0.1, (plan_alone qs few none other tidy.1.1.0 plain.1.0 tidy.0.2, plan_alone ps below out rest tidy.1.1.1 plain.1.1 within.1))
  plan_alone ps below out (Loop qs count body rest) tidy plain within =
      (plan_alone qs (below_inner ps qs below within.0) (inner K ps out qs within.0) body tidy.1.1.0 plain.0 tidy.0.1, plan_alone ps below out rest tidy.1.1.1 plain.1 within.1)

  -- own words are taken in sight of the others
  pub one_outside : (ps : List Part) → AreBelow n ps → (plan : Plan Gadget) → PlanIsTidy plan → PlanIsPlain K plan → PlanIsWithin ps plan → OwnsInSight K plan
  one_outside ps below Ends tidy plain within = tt
  one_outside ps below (Then g rest) tidy plain within = one_outside ps below rest tidy.1 plain.1 within.1
  one_outside ps below (Branch qs first other rest) tidy plain within =
      (at (concerns_or_not qs K), (one_outside qs few first tidy.1.0 plain.0 tidy.0.1, (one_outside qs few other tidy.1.1.0 plain.1.0 tidy.0.2, one_outside ps below rest tidy.1.1.1 plain.1.1 within.1)))
    where
      few : AreBelow n qs
      few = below_inner ps qs below within.0

      at : Concerns qs K ⊎ (Concerns qs K → ⊥) → Concerns qs K ⊎ (PlanTakesNoOwn first × PlanTakesNoOwn other)
      at (inl c) = inl c
      at (inr out) = inr (plan_alone qs few out first tidy.1.0 plain.0 tidy.0.1, plan_alone qs few out other tidy.1.1.0 plain.1.0 tidy.0.2)
  one_outside ps below (Loop qs count body rest) tidy plain within =
      (one_outside qs (below_inner ps qs below within.0) body tidy.1.1.0 plain.0 tidy.0.1, one_outside ps below rest tidy.1.1.1 plain.1 within.1)
