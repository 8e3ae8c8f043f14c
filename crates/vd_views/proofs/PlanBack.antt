-- Two deals by which a plan hides alike give the same items.
use Rattle.std.proofs.Common.{◌≡◌, ℕ, zero, suc, ◌<◌, Bool, true, false, if◌then◌else◌, List, ◌⊎◌, inl, inr, refl, sym, subst, ◌∙◌}
use Rattle.vd_execution.specs.declared.instructions.Act.{Act}
use Rattle.vd_execution.specs.World.{Tape}
use Rattle.vd_execution.specs.Joint.{Part, Hosts, is_other, turn_begun, turns, joint}
use Rattle.vd_execution.specs.Acts.{run_acts, ActsAreWithin}
use Rattle.vd_execution.specs.Gadgets.{Gadget, Alone, Tells, Shares, BothShare, Opens, Masked, Paired, acts_of_gadget, GadgetIsTidy}
use Rattle.vd_execution.specs.Plans.{Plan, Ends, Then, Branch, Loop, joint_of, PlanIsWithin, PlanIsTidy}
use Rattle.vd_execution.proofs.Front.{runs_first}
use Rattle.vd_views.specs.Views.{Coalition, Concerns, BothTurns}
use Rattle.vd_views.specs.Hiding.{Crosses, GadgetHides, TakenAlike}
use Rattle.vd_views.specs.Plans.{run_branch, run_turn, PlanHides, PlanChooses}
use Rattle.vd_views.specs.Back.{AreAlternatives}
use Rattle.vd_views.proofs.Coalitions.{concerns_or_not, all_outside, never_both}
use Rattle.vd_views.proofs.Frames.{acts_frame}
use Rattle.vd_views.proofs.Joints.{turns_frame}
use Rattle.vd_views.proofs.Plans.{begun_cursors, run_turn_grows, run_turn_frame, run_branch_frame}
use Rattle.vd_views.proofs.Back.{ActsSame, acts_taken, gadget_same}

-- ---- a gadget among hosts outside

gadget_without : (K : Coalition) (y z : Tape) → AreAlternatives K y z → (g : Gadget) → GadgetIsTidy g
    → (ps : List Part) → ActsAreWithin ps (acts_of_gadget g) → (Concerns ps K → ⊥) → (v : Hosts) → ActsSame y z (acts_of_gadget g) v
gadget_without K y z alt g tidy ps within out v = gadget_same K y y z alt v v g tidy (hidden g within y) (hidden g within z)
  where
    hidden : (g : Gadget) → ActsAreWithin ps (acts_of_gadget g) → (x : Tape) → GadgetHides K y x g v v
    hidden (Alone k a) i x = tt
    hidden (Tells a said b heard) i x = tt
    hidden (Shares a r b heard) i x = tt
    hidden (BothShare a r heard b q heard_b) i x = tt
    hidden (Opens sharing a p b o heard) i x = tt
    hidden (Masked sharing m n) i x =
        ((λ e d. never_both K n.host.0 e (all_outside ps K out n.host.0 i.1.1.1.0)), (λ e d. never_both K m.host.0 e (all_outside ps K out m.host.0 i.0)))
    hidden (Paired p q) i x = λ e. absurd (either e)
      where
        either : Crosses K p.host.0 q.host.0 → ⊥
        either (inl e) = never_both K p.host.0 e.0 (all_outside ps K out p.host.0 i.0)
        either (inr e) = never_both K q.host.0 e.0 (all_outside ps K out q.host.0 i.1.0)

-- ---- a block in which no host of the coalition takes part

either_taken : (y z : Tape) (b : Bool) (v x : Hosts) → TakenAlike v y z → TakenAlike x y z → TakenAlike (if b then v else x) y z
either_taken y z true v x p q = p
either_taken y z false v x p q = q

begun_taken : (y z : Tape) (ps : List Part) (i : ℕ) (v : Hosts) → TakenAlike v y z → TakenAlike (turn_begun ps i v) y z
begun_taken y z ps i v k g s j less = let P : ℕ → Type 0 = λ n. j < n in k g s j (subst P (begun_cursors ps i v g s) less)

turns_taken : (y z : Tape) (turn : ℕ → Hosts → Hosts) → ((i : ℕ) (v : Hosts) → TakenAlike v y z → TakenAlike (turn i v) y z)
    → (n i : ℕ) (v : Hosts) → TakenAlike v y z → TakenAlike (turns turn n i v) y z
turns_taken y z turn step zero i v k = k
turns_taken y z turn step (suc n) i v k = turns_taken y z turn step n (suc i) (turn i v) (step i v k)

plan_without : (K : Coalition) (y z : Tape) → AreAlternatives K y z → (plan : Plan Gadget) → PlanIsTidy plan
    → (ps : List Part) → PlanIsWithin ps plan → (Concerns ps K → ⊥) → (v : Hosts) → TakenAlike v y z → TakenAlike (joint y (joint_of plan) v) y z
plan_without K y z alt Ends tidy ps within out v k = k
plan_without K y z alt (Then g rest) tidy ps within out v k =
    let xs : List Act = acts_of_gadget g in
    let after : TakenAlike (run_acts y xs v) y z = acts_taken y z xs v k (gadget_without K y z alt g tidy.0 ps within.0 out v) in
    let P : Hosts → Type 0 = λ x. TakenAlike x y z in
    subst P (sym (runs_first y xs (joint_of rest) v)) (plan_without K y z alt rest tidy.1 ps within.1 out (run_acts y xs v) after)
plan_without K y z alt (Branch qs first other rest) tidy ps within out v k =
    let inner : Concerns qs K → ⊥ = λ c. out (c.0, (c.1.0, within.0 c.0 c.1.1)) in
    plan_without K y z alt rest tidy.1.1.1 ps within.1 out (run_branch qs first other y v)
    (either_taken y z (is_other qs v) (joint y (joint_of other) v) (joint y (joint_of first) v)
    (plan_without K y z alt other tidy.1.1.0 qs tidy.0.2 inner v k) (plan_without K y z alt first tidy.1.0 qs tidy.0.1 inner v k))
plan_without K y z alt (Loop qs count body rest) tidy ps within out v k =
    let inner : Concerns qs K → ⊥ = λ c. out (c.0, (c.1.0, within.0 c.0 c.1.1)) in
    plan_without K y z alt rest tidy.1.1.1 ps within.1 out (turns (run_turn qs body y) count 0 v)
    (turns_taken y z (run_turn qs body y)
    (λ i x p. plan_without K y z alt body tidy.1.1.0 qs tidy.0.1 inner (turn_begun qs i x) (begun_taken y z qs i x p)) count 0 v k)

-- ---- the items that a plan takes

turns_same : (K : Coalition) (t y z : Tape) (ps : List Part) (body : Plan Gadget)
    → ((w v : Hosts) → PlanChooses K t y body w v → PlanHides K t y body w v → PlanHides K t z body w v → TakenAlike v y z → TakenAlike (joint y (joint_of body) v) y z)
    → (n i : ℕ) (w v : Hosts)
    → BothTurns (λ j p q. PlanChooses K t y body (turn_begun ps j p) (turn_begun ps j q)) (run_turn ps body t) (run_turn ps body y) n i w v
    → BothTurns (λ j p q. PlanHides K t y body (turn_begun ps j p) (turn_begun ps j q)) (run_turn ps body t) (run_turn ps body y) n i w v
    → BothTurns (λ j p q. PlanHides K t z body (turn_begun ps j p) (turn_begun ps j q)) (run_turn ps body t) (run_turn ps body z) n i w v
    → TakenAlike v y z → TakenAlike (turns (run_turn ps body y) n i v) y z
turns_same K t y z ps body ih zero i w v c a b k = k
turns_same K t y z ps body ih (suc n) i w v c a b k =
    let one : TakenAlike (run_turn ps body y i v) y z = ih (turn_begun ps i w) (turn_begun ps i v) c.0 a.0 b.0 (begun_taken y z ps i v k) in
    let P : Hosts → Type 0 = λ x.
    BothTurns (λ j p q. PlanHides K t z body (turn_begun ps j p) (turn_begun ps j q)) (run_turn ps body t) (run_turn ps body z) n (suc i) (run_turn ps body t i w) x in
    turns_same K t y z ps body ih n (suc i) (run_turn ps body t i w) (run_turn ps body y i v) c.1 a.1 (subst P (run_turn_frame ps body i y z v one) b.1) one

pub plan_same : (K : Coalition) (t y z : Tape) → AreAlternatives K y z → (plan : Plan Gadget) → PlanIsTidy plan
    → (w v : Hosts) → PlanChooses K t y plan w v → PlanHides K t y plan w v → PlanHides K t z plan w v → TakenAlike v y z → TakenAlike (joint y (joint_of plan) v) y z
plan_same K t y z alt Ends tidy w v c a b k = k
plan_same K t y z alt (Then g rest) tidy w v c a b k =
    let xs : List Act = acts_of_gadget g in
    let after : TakenAlike (run_acts y xs v) y z = acts_taken y z xs v k (gadget_same K t y z alt w v g tidy.0 a.0 b.0) in
    let P : Hosts → Type 0 = λ x. PlanHides K t z rest (run_acts t xs w) x in
    let Q : Hosts → Type 0 = λ x. TakenAlike x y z in
    subst Q (sym (runs_first y xs (joint_of rest) v))
    (plan_same K t y z alt rest tidy.1 (run_acts t xs w) (run_acts y xs v) c.1 a.1 (subst P (acts_frame y z xs v after) b.1) after)
plan_same K t y z alt (Branch ps first other rest) tidy w v c a b k =
    let middle : TakenAlike (run_branch ps first other y v) y z =
    at (λ i l m. plan_same K t y z alt other tidy.1.1.0 w v i l m k) (λ i l m. plan_same K t y z alt first tidy.1.0 w v i l m k) (concerns_or_not ps K) in
    let P : Hosts → Type 0 = λ x. PlanHides K t z rest (run_branch ps first other t w) x in
    plan_same K t y z alt rest tidy.1.1.1 (run_branch ps first other t w) (run_branch ps first other y v) c.1 a.1
    (subst P (run_branch_frame ps first other y z v middle) b.1) middle
  where
    chosen : (PlanChooses K t y other w v → PlanHides K t y other w v → PlanHides K t z other w v → TakenAlike (joint y (joint_of other) v) y z)
        → (PlanChooses K t y first w v → PlanHides K t y first w v → PlanHides K t z first w v → TakenAlike (joint y (joint_of first) v) y z)
        → Concerns ps K → (d : Bool) → is_other ps v ≡ d → TakenAlike (if d then joint y (joint_of other) v else joint y (joint_of first) v) y z
    chosen i_other i_first q true f = let e : is_other ps w ≡ true = (c.0 q).0 ∙ f in i_other ((c.0 q).1.0 e) ((a.0 q).1.0 e) ((b.0 q).1.0 e)
    chosen i_other i_first q false f = let e : is_other ps w ≡ false = (c.0 q).0 ∙ f in i_first ((c.0 q).1.1 e) ((a.0 q).1.1 e) ((b.0 q).1.1 e)

    at : (PlanChooses K t y other w v → PlanHides K t y other w v → PlanHides K t z other w v → TakenAlike (joint y (joint_of other) v) y z)
        → (PlanChooses K t y first w v → PlanHides K t y first w v → PlanHides K t z first w v → TakenAlike (joint y (joint_of first) v) y z)
        → Concerns ps K ⊎ (Concerns ps K → ⊥) → TakenAlike (run_branch ps first other y v) y z
    at i_other i_first (inl q) = chosen i_other i_first q (is_other ps v) refl
    at i_other i_first (inr out) =
        either_taken y z (is_other ps v) (joint y (joint_of other) v) (joint y (joint_of first) v)
        (plan_without K y z alt other tidy.1.1.0 ps tidy.0.2 out v k) (plan_without K y z alt first tidy.1.0 ps tidy.0.1 out v k)
plan_same K t y z alt (Loop ps count body rest) tidy w v c a b k =
    let middle : TakenAlike (turns (run_turn ps body y) count 0 v) y z =
    at (λ p q i j l m. plan_same K t y z alt body tidy.1.1.0 p q i j l m) (concerns_or_not ps K) in
    let P : Hosts → Type 0 = λ x. PlanHides K t z rest (turns (run_turn ps body t) count 0 w) x in
    plan_same K t y z alt rest tidy.1.1.1 (turns (run_turn ps body t) count 0 w) (turns (run_turn ps body y) count 0 v) c.1 a.1
    (subst P (turns_frame (run_turn ps body) (run_turn_grows ps body) (run_turn_frame ps body) count 0 y z v middle) b.1) middle
  where
    at : ((p q : Hosts) → PlanChooses K t y body p q → PlanHides K t y body p q → PlanHides K t z body p q → TakenAlike q y z → TakenAlike (joint y (joint_of body) q) y z)
        → Concerns ps K ⊎ (Concerns ps K → ⊥) → TakenAlike (turns (run_turn ps body y) count 0 v) y z
    at ih (inl q) = turns_same K t y z ps body ih count 0 w v (c.0 q) (a.0 q) (b.0 q) k
    at ih (inr out) =
        turns_taken y z (run_turn ps body y)
        (λ i x p. plan_without K y z alt body tidy.1.1.0 ps tidy.0.1 out (turn_begun ps i x) (begun_taken y z ps i x p)) count 0 v k

-- ---- exchanged, the coalition reads the same guards

turns_turned : (P R : ℕ → Hosts → Hosts → Type 0) (f g : ℕ → Hosts → Hosts) → ((i : ℕ) (x y : Hosts) → P i x y → R i y x)
    → (n i : ℕ) (w v : Hosts) → BothTurns P f g n i w v → BothTurns R g f n i v w
turns_turned P R f g e zero i w v a = tt
turns_turned P R f g e (suc n) i w v a = (e i w v a.0, turns_turned P R f g e n (suc i) (f i w) (g i v) a.1)

pub chooses_back : (K : Coalition) (t u : Tape) (plan : Plan Gadget) (w v : Hosts) → PlanChooses K t u plan w v → PlanChooses K u t plan v w
chooses_back K t u Ends w v c = tt
chooses_back K t u (Then g rest) w v c = (tt, chooses_back K t u rest (run_acts t (acts_of_gadget g) w) (run_acts u (acts_of_gadget g) v) c.1)
chooses_back K t u (Branch ps first other rest) w v c = (
  (λ q. (sym (c.0 q).0, ((λ e. chooses_back K t u other w v ((c.0 q).1.0 ((c.0 q).0 ∙ e))), (λ e. chooses_back K t u first w v ((c.0 q).1.1 ((c.0 q).0 ∙ e)))))),
  chooses_back K t u rest (run_branch ps first other t w) (run_branch ps first other u v) c.1,
)
chooses_back K t u (Loop ps count body rest) w v c = (
  (λ q. turns_turned (λ i x y. PlanChooses K t u body (turn_begun ps i x) (turn_begun ps i y)) (λ i x y. PlanChooses K u t body (turn_begun ps i x) (turn_begun ps i y))
      (run_turn ps body t) (run_turn ps body u) (λ i x y d. chooses_back K t u body (turn_begun ps i x) (turn_begun ps i y) d) count 0 w v (c.0 q)),
  chooses_back K t u rest (turns (run_turn ps body t) count 0 w) (turns (run_turn ps body u) count 0 v) c.1,
)
