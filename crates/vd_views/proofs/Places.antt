-- The places of own words that are given: they rise, and they follow from the branches that are taken.
use Rattle.std.proofs.Common.{◌≡◌, ◌≢◌, ℕ, zero, suc, ◌≤◌, nat_eq, ◌&&◌, ◌||◌, Bool, true, false, if◌then◌else◌, List, [], ◌∷◌, ◌++◌, ◌⊎◌, inl, inr, refl, sym, ap, ap₂, subst, ◌∙◌, arith}
use Rattle.std.proofs.lemmas.Bool.Decides.{eqb_tells}
use Rattle.vd_base.specs.declared.ids.HostId.{HostId}
use Rattle.vd_execution.specs.declared.instructions.Action.TheVariants as action
use Rattle.vd_execution.specs.declared.instructions.Act.{Act}
use Rattle.vd_execution.specs.declared.instructions.Act.TheVariants as act
use Rattle.vd_execution.specs.declared.instructions.Reg.{Reg}
use Rattle.vd_execution.specs.Step.{OwnWords}
use Rattle.vd_execution.specs.World.{Tape}
use Rattle.vd_execution.specs.Joint.{Part, TakesPart, Host, Hosts, acted, after_do, is_other, turn_begun, turns, joint}
use Rattle.vd_execution.specs.Acts.{run_acts, ActsAreWithin}
use Rattle.vd_execution.specs.Gadgets.{Gadget, Alone, Tells, Shares, BothShare, Opens, Masked, Paired, acts_of_gadget}
use Rattle.vd_execution.specs.Plans.{Plan, Ends, Then, Branch, Loop, joint_of, PlanIsWithin, PlanIsTidy}
use Rattle.vd_execution.proofs.Front.{runs_first, put_same}
use Rattle.vd_views.specs.Views.{Coalition, IsIn, everyone, Concerns, BothTurns}
use Rattle.vd_views.specs.Plans.{run_branch, run_turn, PlanChooses}
use Rattle.vd_views.specs.Moved.{looks_in, place_if, given_by, in_turns, places, Rise}
use Rattle.vd_views.specs.Sides.{TakesNoOwn, PlanTakesNoOwn, OwnsInSight}
use Rattle.vd_views.proofs.Counts.{CountsAlike, acts_count}
use Rattle.vd_views.proofs.Frames.{acts_grow}
use Rattle.vd_views.proofs.Plans.{begun_cursors}
use Rattle.vd_views.proofs.Given.{looking}
use Rattle.vd_views.proofs.ViewsBackendsPlans.{plan_owns}

-- ---- they rise

own_taken : (t : Tape) (a : HostId) (r : Reg) (w : Hosts) → (after_do t a.0 (action.Own r) w a.0).cursors OwnWords ≡ suc ((w a.0).cursors OwnWords)
own_taken t a r w = ap (λ (s : Host). s.cursors OwnWords) (put_same w a.0 (acted (t a.0) (action.Own r) (w a.0)))

first_takes : (t : Tape) (a : HostId) (r : Reg) (xs : List Act) (w : Hosts) → suc ((w a.0).cursors OwnWords) ≤ (run_acts t (act.Do a (action.Own r) ∷ xs) w a.0).cursors OwnWords
first_takes t a r xs w =
    let one : (after_do t a.0 (action.Own r) w a.0).cursors OwnWords ≡ suc ((w a.0).cursors OwnWords) = own_taken t a r w in
    let more : (after_do t a.0 (action.Own r) w a.0).cursors OwnWords ≤ (run_acts t xs (after_do t a.0 (action.Own r) w) a.0).cursors OwnWords = acts_grow t xs (after_do t a.0 (action.Own r) w) a.0 OwnWords in
    omega (arith, one, more)

first_true : (p q : Bool) → p && q ≡ true → p ≡ true
first_true true q e = refl
first_true false q e = e

one_true : (p q : Bool) → p || q ≡ true → (p ≡ true) ⊎ (q ≡ true)
one_true true q e = inl refl
one_true false q e = inr e

is_same : (a b : ℕ) → nat_eq a b ≡ true → a ≡ b
is_same a b e = at (eqb_tells a b)
  where
    at : ((nat_eq a b ≡ true) × (a ≡ b)) ⊎ ((nat_eq a b ≡ false) × (a ≢ b)) → a ≡ b
    at (inl p) = p.1
    at (inr p) = let no : false ≡ true = sym p.0 ∙ e in cc

place_rise : (b : Bool) (lo hi : ℕ) → lo ≤ hi → (b ≡ true → suc lo ≤ hi) → Rise lo (place_if b lo) hi
place_rise true lo hi le f = (omega arith, f refl)
place_rise false lo hi le f = le

given_rises : (K : Coalition) (g : ℕ) (t : Tape) (x : Gadget) (w : Hosts) → Rise ((w g).cursors OwnWords) (given_by K g x w) ((run_acts t (acts_of_gadget x) w g).cursors OwnWords)
given_rises K g t (Alone h a) w = acts_grow t (acts_of_gadget (Alone h a)) w g OwnWords
given_rises K g t (Tells a said b heard) w = acts_grow t (acts_of_gadget (Tells a said b heard)) w g OwnWords
given_rises K g t (Shares a r b heard) w =
    place_rise (nat_eq a.0 g && K b.0) ((w g).cursors OwnWords) ((run_acts t (acts_of_gadget (Shares a r b heard)) w g).cursors OwnWords) (acts_grow t (acts_of_gadget (Shares a r b heard)) w g OwnWords)
    (λ e.
    subst (λ h. suc ((w h).cursors OwnWords) ≤ (run_acts t (acts_of_gadget (Shares a r b heard)) w h).cursors OwnWords) (is_same a.0 g (first_true (nat_eq a.0 g) (K b.0) e))
    (first_takes t a r (act.Msg a (r ∷ []) b (heard ∷ []) ∷ []) w))
given_rises K g t (BothShare a r heard b q heard_b) w =
    place_rise ((nat_eq a.0 g && K b.0) || (nat_eq b.0 g && K a.0)) ((w g).cursors OwnWords) ((run_acts t (acts_of_gadget (BothShare a r heard b q heard_b)) w g).cursors OwnWords)
    (acts_grow t (acts_of_gadget (BothShare a r heard b q heard_b)) w g OwnWords) (λ e. at (one_true (nat_eq a.0 g && K b.0) (nat_eq b.0 g && K a.0) e))
  where
    second : suc ((w b.0).cursors OwnWords) ≤ (run_acts t (act.Do b (action.Own q) ∷ act.Msg a (r ∷ []) b (heard_b ∷ []) ∷ act.Msg b (q ∷ []) a (heard ∷ []) ∷ []) (after_do t a.0 (action.Own r) w) b.0).cursors OwnWords
    second =
        let before : (w b.0).cursors OwnWords ≤ (after_do t a.0 (action.Own r) w b.0).cursors OwnWords = acts_grow t (act.Do a (action.Own r) ∷ []) w b.0 OwnWords in
        let more : suc ((after_do t a.0 (action.Own r) w b.0).cursors OwnWords) ≤ (run_acts t (act.Do b (action.Own q) ∷ act.Msg a (r ∷ []) b (heard_b ∷ []) ∷ act.Msg b (q ∷ []) a (heard ∷ []) ∷ []) (after_do t a.0 (action.Own r) w) b.0).cursors OwnWords =
        first_takes t b q (act.Msg a (r ∷ []) b (heard_b ∷ []) ∷ act.Msg b (q ∷ []) a (heard ∷ []) ∷ []) (after_do t a.0 (action.Own r) w) in
        omega (arith, before, more)

    at : ((nat_eq a.0 g && K b.0) ≡ true) ⊎ ((nat_eq b.0 g && K a.0) ≡ true) → suc ((w g).cursors OwnWords) ≤ (run_acts t (acts_of_gadget (BothShare a r heard b q heard_b)) w g).cursors OwnWords
    at (inl e) =
        subst (λ h. suc ((w h).cursors OwnWords) ≤ (run_acts t (acts_of_gadget (BothShare a r heard b q heard_b)) w h).cursors OwnWords) (is_same a.0 g (first_true (nat_eq a.0 g) (K b.0) e))
        (first_takes t a r (act.Do b (action.Own q) ∷ act.Msg a (r ∷ []) b (heard_b ∷ []) ∷ act.Msg b (q ∷ []) a (heard ∷ []) ∷ []) w)
    at (inr e) =
        subst (λ h. suc ((w h).cursors OwnWords) ≤ (run_acts t (acts_of_gadget (BothShare a r heard b q heard_b)) w h).cursors OwnWords) (is_same b.0 g (first_true (nat_eq b.0 g) (K a.0) e)) second
given_rises K g t (Opens sharing a x b y heard) w = acts_grow t (acts_of_gadget (Opens sharing a x b y heard)) w g OwnWords
given_rises K g t (Masked sharing m n) w = acts_grow t (acts_of_gadget (Masked sharing m n)) w g OwnWords
given_rises K g t (Paired p q) w = acts_grow t (acts_of_gadget (Paired p q)) w g OwnWords

risen : (lo : ℕ) (is : List ℕ) (hi : ℕ) → Rise lo is hi → lo ≤ hi
risen lo [] hi r = r
risen lo (i ∷ is) hi r = let x = r.0 in let y = risen (suc i) is hi r.1 in omega (arith, x, y)

rise_lower : (lo mid : ℕ) (b : List ℕ) (hi : ℕ) → lo ≤ mid → Rise mid b hi → Rise lo b hi
rise_lower lo mid [] hi le r = omega (arith, le, r)
rise_lower lo mid (i ∷ b) hi le r = ((let x = r.0 in omega (arith, le, x)), r.1)

rise_on : (lo mid hi : ℕ) (a b : List ℕ) → Rise lo a mid → Rise mid b hi → Rise lo (a ++ b) hi
rise_on lo mid hi [] b r s = rise_lower lo mid b hi r s
rise_on lo mid hi (i ∷ a) b r s = (r.0, rise_on (suc i) mid hi a b r.1 s)

module _ (K : Coalition) (g : ℕ) (t : Tape) where
  branch_rise : (l b : Bool) (lo : ℕ) (x z : List ℕ) (w v : Hosts) → Rise lo x ((w g).cursors OwnWords) → Rise lo z ((v g).cursors OwnWords)
      → Rise lo (if l then (if b then x else z) else []) (((if b then w else v) g).cursors OwnWords)
  branch_rise true true lo x z w v r s = r
  branch_rise true false lo x z w v r s = s
  branch_rise false true lo x z w v r s = risen lo x ((w g).cursors OwnWords) r
  branch_rise false false lo x z w v r s = risen lo z ((v g).cursors OwnWords) s

  either_rise : (l : Bool) (lo : ℕ) (x : List ℕ) (hi : ℕ) → Rise lo x hi → Rise lo (if l then x else []) hi
  either_rise true lo x hi r = r
  either_rise false lo x hi r = risen lo x hi r

  turns_rise : (ps : List Part) (body : Plan Gadget) → ((w : Hosts) → Rise ((w g).cursors OwnWords) (places K g t body w) ((joint t (joint_of body) w g).cursors OwnWords))
      → (n i : ℕ) (w : Hosts) → Rise ((w g).cursors OwnWords) (in_turns (λ j x. places K g t body (turn_begun ps j x)) (run_turn ps body t) n i w) ((turns (run_turn ps body t) n i w g).cursors OwnWords)
  turns_rise ps body ih zero i w = omega arith
  turns_rise ps body ih (suc n) i w =
      rise_on ((w g).cursors OwnWords) ((run_turn ps body t i w g).cursors OwnWords) ((turns (run_turn ps body t) n (suc i) (run_turn ps body t i w) g).cursors OwnWords)
      (places K g t body (turn_begun ps i w)) (in_turns (λ j x. places K g t body (turn_begun ps j x)) (run_turn ps body t) n (suc i) (run_turn ps body t i w))
      (subst (λ lo. Rise lo (places K g t body (turn_begun ps i w)) ((run_turn ps body t i w g).cursors OwnWords)) (begun_cursors ps i w g OwnWords) (ih (turn_begun ps i w)))
      (turns_rise ps body ih n (suc i) (run_turn ps body t i w))

  pub places_rise : (plan : Plan Gadget) (w : Hosts) → Rise ((w g).cursors OwnWords) (places K g t plan w) ((joint t (joint_of plan) w g).cursors OwnWords)
  places_rise Ends w = omega arith
  places_rise (Then x rest) w =
      let w1 : Hosts = run_acts t (acts_of_gadget x) w in
      subst (λ (h : Hosts). Rise ((w g).cursors OwnWords) (given_by K g x w ++ places K g t rest w1) ((h g).cursors OwnWords)) (sym (runs_first t (acts_of_gadget x) (joint_of rest) w))
      (rise_on ((w g).cursors OwnWords) ((w1 g).cursors OwnWords) ((joint t (joint_of rest) w1 g).cursors OwnWords) (given_by K g x w) (places K g t rest w1) (given_rises K g t x w) (places_rise rest w1))
  places_rise (Branch ps first other rest) w =
      let w1 : Hosts = run_branch ps first other t w in
      rise_on ((w g).cursors OwnWords) ((w1 g).cursors OwnWords) ((joint t (joint_of rest) w1 g).cursors OwnWords)
      (if looks_in K ps then (if is_other ps w then places K g t other w else places K g t first w) else []) (places K g t rest w1)
      (branch_rise (looks_in K ps) (is_other ps w) ((w g).cursors OwnWords) (places K g t other w) (places K g t first w) (joint t (joint_of other) w) (joint t (joint_of first) w) (places_rise other w) (places_rise first w))
      (places_rise rest w1)
  places_rise (Loop ps count body rest) w =
      let w1 : Hosts = turns (run_turn ps body t) count 0 w in
      let here : List ℕ = in_turns (λ j x. places K g t body (turn_begun ps j x)) (run_turn ps body t) count 0 w in
      rise_on ((w g).cursors OwnWords) ((w1 g).cursors OwnWords) ((joint t (joint_of rest) w1 g).cursors OwnWords) (if looks_in K ps then here else []) (places K g t rest w1)
      (either_rise (looks_in K ps) ((w g).cursors OwnWords) here ((w1 g).cursors OwnWords) (turns_rise ps body (λ x. places_rise body x) count 0 w)) (places_rise rest w1)

-- ---- they follow from the branches

nobody_takes : (ps : List Part) → ((h : ℕ) → TakesPart ps h → ⊥) → (x : Gadget) → ActsAreWithin ps (acts_of_gadget x) → TakesNoOwn x
nobody_takes ps none (Alone h a) i = absurd (none h.0 i.0)
nobody_takes ps none (Tells a said b heard) i = tt
nobody_takes ps none (Shares a r b heard) i = none a.0 i.0
nobody_takes ps none (BothShare a r heard b q heard_b) i = none a.0 i.0
nobody_takes ps none (Opens sharing a x b y heard) i = tt
nobody_takes ps none (Masked sharing m n) i = tt
nobody_takes ps none (Paired p q) i = tt

nobody : (ps : List Part) → ((h : ℕ) → TakesPart ps h → ⊥) → (plan : Plan Gadget) → PlanIsTidy plan → PlanIsWithin ps plan → PlanTakesNoOwn plan
nobody ps none Ends tidy i = tt
nobody ps none (Then x rest) tidy i = (nobody_takes ps none x i.0, nobody ps none rest tidy.1 i.1)
nobody ps none (Branch qs first other rest) tidy i =
    let inner : (h : ℕ) → TakesPart qs h → ⊥ = λ h q. none h (i.0 h q) in
    (nobody qs inner first tidy.1.0 tidy.0.1, (nobody qs inner other tidy.1.1.0 tidy.0.2, nobody ps none rest tidy.1.1.1 i.1))
nobody ps none (Loop qs count body rest) tidy i = (nobody qs (λ h q. none h (i.0 h q)) body tidy.1.1.0 tidy.0.1, nobody ps none rest tidy.1.1.1 i.1)

-- all hosts together see all own words taken
pub all_sight : (plan : Plan Gadget) → PlanIsTidy plan → OwnsInSight everyone plan
all_sight Ends tidy = tt
all_sight (Then x rest) tidy = all_sight rest tidy.1
all_sight (Branch [] first other rest) tidy =
    (inr (nobody [] (λ h q. q) first tidy.1.0 tidy.0.1, nobody [] (λ h q. q) other tidy.1.1.0 tidy.0.2), (all_sight first tidy.1.0, (all_sight other tidy.1.1.0, all_sight rest tidy.1.1.1)))
all_sight (Branch (p ∷ ps) first other rest) tidy = (inl (p.0, (refl, inl refl)), (all_sight first tidy.1.0, (all_sight other tidy.1.1.0, all_sight rest tidy.1.1.1)))
all_sight (Loop ps count body rest) tidy = (all_sight body tidy.1.1.0, all_sight rest tidy.1.1.1)

-- of two coalitions the one is within the other, which sees own words taken
module _ (K L : Coalition) (wider : (h : ℕ) → IsIn K h → IsIn L h) (g : ℕ) (t y : Tape) where
  given_same : (x : Gadget) (w v : Hosts) → CountsAlike OwnWords w v → given_by K g x w ≡ given_by K g x v
  given_same (Alone h a) w v e = refl
  given_same (Tells a said b heard) w v e = refl
  given_same (Shares a r b heard) w v e = ap (place_if (nat_eq a.0 g && K b.0)) (e g)
  given_same (BothShare a r heard b q heard_b) w v e = ap (place_if ((nat_eq a.0 g && K b.0) || (nat_eq b.0 g && K a.0))) (e g)
  given_same (Opens sharing a x b p heard) w v e = refl
  given_same (Masked sharing m n) w v e = refl
  given_same (Paired p q) w v e = refl

  either_same : (l : Bool) (x z : List ℕ) → (l ≡ true → x ≡ z) → (if l then x else []) ≡ (if l then z else [])
  either_same true x z f = f refl
  either_same false x z f = refl

  both_same : (b d : Bool) → b ≡ d → (x1 x2 y1 y2 : List ℕ) → (b ≡ true → x1 ≡ y1) → (b ≡ false → x2 ≡ y2) → (if b then x1 else x2) ≡ (if d then y1 else y2)
  both_same true true e x1 x2 y1 y2 f h = f refl
  both_same false false e x1 x2 y1 y2 f h = h refl
  both_same true false e x1 x2 y1 y2 f h = cc
  both_same false true e x1 x2 y1 y2 f h = cc

  looked : (ps : List Part) → looks_in K ps ≡ true → Concerns ps L
  looked ps e = let c = looking K ps e in (c.0, (wider c.0 c.1.0, c.1.1))

  turns_same : (ps : List Part) (body : Plan Gadget) → OwnsInSight L body → PlanIsTidy body
      → ((w v : Hosts) → PlanChooses L t y body w v → CountsAlike OwnWords w v → places K g t body w ≡ places K g y body v)
      → (n i : ℕ) (w v : Hosts) → BothTurns (λ j p q. PlanChooses L t y body (turn_begun ps j p) (turn_begun ps j q)) (run_turn ps body t) (run_turn ps body y) n i w v → CountsAlike OwnWords w v
      → in_turns (λ j x. places K g t body (turn_begun ps j x)) (run_turn ps body t) n i w ≡ in_turns (λ j x. places K g y body (turn_begun ps j x)) (run_turn ps body y) n i v
  turns_same ps body sight tidy ih zero i w v c e = refl
  turns_same ps body sight tidy ih (suc n) i w v c e =
      let begun : CountsAlike OwnWords (turn_begun ps i w) (turn_begun ps i v) = λ k. begun_cursors ps i w k OwnWords ∙ e k ∙ sym (begun_cursors ps i v k OwnWords) in
      ap₂ (λ (a b : List ℕ). a ++ b) (ih (turn_begun ps i w) (turn_begun ps i v) c.0 begun)
      (turns_same ps body sight tidy ih n (suc i) (run_turn ps body t i w) (run_turn ps body y i v) c.1 (plan_owns L t y body sight tidy (turn_begun ps i w) (turn_begun ps i v) c.0 begun))

  pub places_same : (plan : Plan Gadget) → OwnsInSight L plan → PlanIsTidy plan → (w v : Hosts) → PlanChooses L t y plan w v → CountsAlike OwnWords w v → places K g t plan w ≡ places K g y plan v
  places_same Ends sight tidy w v c e = refl
  places_same (Then x rest) sight tidy w v c e =
      let xs : List Act = acts_of_gadget x in
      ap₂ (λ (a b : List ℕ). a ++ b) (given_same x w v e)
      (places_same rest sight tidy.1 (run_acts t xs w) (run_acts y xs v) c.1 (acts_count t y xs OwnWords w v e))
  places_same (Branch ps first other rest) sight tidy w v c e =
      ap₂ (λ (a b : List ℕ). a ++ b)
      (either_same (looks_in K ps) (if is_other ps w then places K g t other w else places K g t first w) (if is_other ps v then places K g y other v else places K g y first v)
      (λ l.
      let q = c.0 (looked ps l) in
      both_same (is_other ps w) (is_other ps v) q.0 (places K g t other w) (places K g t first w) (places K g y other v) (places K g y first v)
      (λ i. places_same other sight.1.1.0 tidy.1.1.0 w v (q.1.0 i) e) (λ i. places_same first sight.1.0 tidy.1.0 w v (q.1.1 i) e)))
      (places_same rest sight.1.1.1 tidy.1.1.1 (run_branch ps first other t w) (run_branch ps first other y v) c.1
      (plan_owns L t y (Branch ps first other Ends) (sight.0, (sight.1.0, (sight.1.1.0, tt))) (tidy.0, (tidy.1.0, (tidy.1.1.0, tt))) w v (c.0, tt) e))
  places_same (Loop ps count body rest) sight tidy w v c e =
      ap₂ (λ (a b : List ℕ). a ++ b)
      (either_same (looks_in K ps) (in_turns (λ j x. places K g t body (turn_begun ps j x)) (run_turn ps body t) count 0 w) (in_turns (λ j x. places K g y body (turn_begun ps j x)) (run_turn ps body y) count 0 v)
      (λ l. turns_same ps body sight.0 tidy.1.1.0 (λ x z d f. places_same body sight.0 tidy.1.1.0 x z d f) count 0 w v (c.0 (looked ps l)) e))
      (places_same rest sight.1 tidy.1.1.1 (turns (run_turn ps body t) count 0 w) (turns (run_turn ps body y) count 0 v) c.1
      (plan_owns L t y (Loop ps count body Ends) (sight.0, tt) (tidy.0, (tidy.1.0, (tidy.1.1.0, tt))) w v (c.0, tt) e))
