-- A plan without the blocks in which no host takes part does the same, and is explained by the same deal.
use Rattle.std.proofs.Common.{◌≡◌, ℕ, zero, suc, Bool, true, false, if◌then◌else◌, List, [], ◌∷◌, refl, ap, sym, ◌∙◌}
use Rattle.vd_execution.specs.World.{Tape}
use Rattle.vd_execution.specs.Joint.{Part, Hosts, is_other, turn_begun, turns, joint}
use Rattle.vd_execution.specs.Acts.{run_acts}
use Rattle.vd_execution.specs.Gadgets.{Gadget, acts_of_gadget}
use Rattle.vd_execution.specs.Plans.{Plan, Ends, Then, Branch, Loop, joint_of, PlanIsTidy}
use Rattle.vd_execution.proofs.Front.{runs_first}
use Rattle.vd_views.specs.Views.{Coalition}
use Rattle.vd_views.specs.Plans.{run_branch, run_turn}
use Rattle.vd_views.specs.Excused.{item_again, if_both, turns_again, excused}
use Rattle.vd_excuse_walk.specs.Walks.{Both}
use Rattle.vd_excuse_walk.specs.EquivocationLawsClaims.{explained_end}
use Rattle.vd_excuse.proofs.Nobody.{no_change, no_excuse, idle_turns, idle_again}

abbrev pub trimmed : Plan Gadget → Plan Gadget
trimmed Ends = Ends
trimmed (Then g rest) = Then g (trimmed rest)
trimmed (Branch [] first other rest) = trimmed rest
trimmed (Branch (p ∷ ps) first other rest) = Branch (p ∷ ps) (trimmed first) (trimmed other) (trimmed rest)
trimmed (Loop [] count body rest) = trimmed rest
trimmed (Loop (p ∷ ps) count body rest) = Loop (p ∷ ps) count (trimmed body) (trimmed rest)

turns_same : (f k : ℕ → Hosts → Hosts) → ((i : ℕ) (w : Hosts) → f i w ≡ k i w) → (n i : ℕ) (w : Hosts) → turns f n i w ≡ turns k n i w
turns_same f k same zero i w = refl
turns_same f k same (suc n) i w = ap (λ (v : Hosts). turns f n (suc i) v) (same i w) ∙ turns_same f k same n (suc i) (k i w)

chosen_same : {X : Type 0} (b : Bool) (x y z q : X) → x ≡ z → y ≡ q → (if b then x else y) ≡ (if b then z else q)
chosen_same true x y z q e f = e
chosen_same false x y z q e f = f

-- ---- the run

same_run : (plan : Plan Gadget) → PlanIsTidy plan → (t : Tape) (w : Hosts) → joint t (joint_of (trimmed plan)) w ≡ joint t (joint_of plan) w
same_run Ends tidy t w = refl
same_run (Then g rest) tidy t w =
    runs_first t (acts_of_gadget g) (joint_of (trimmed rest)) w
    ∙ same_run rest tidy.1 t (run_acts t (acts_of_gadget g) w)
    ∙ sym (runs_first t (acts_of_gadget g) (joint_of rest) w)
same_run (Branch [] first other rest) tidy t w = same_run rest tidy.1.1.1 t w ∙ ap (joint t (joint_of rest)) (sym (no_change other t w tidy.1.1.0 tidy.0.2))
same_run (Branch (p ∷ ps) first other rest) tidy t w =
    ap (joint t (joint_of (trimmed rest)))
    (chosen_same (is_other (p ∷ ps) w) (joint t (joint_of (trimmed other)) w) (joint t (joint_of (trimmed first)) w) (joint t (joint_of other) w) (joint t (joint_of first) w)
    (same_run other tidy.1.1.0 t w) (same_run first tidy.1.0 t w))
    ∙ same_run rest tidy.1.1.1 t (run_branch (p ∷ ps) first other t w)
same_run (Loop [] count body rest) tidy t w =
    same_run rest tidy.1.1.1 t w
    ∙ ap (joint t (joint_of rest)) (sym (idle_turns (run_turn [] body t) (λ i v. no_change body t (turn_begun [] i v) tidy.1.1.0 tidy.0.1) count 0 w))
same_run (Loop (p ∷ ps) count body rest) tidy t w =
    ap (joint t (joint_of (trimmed rest)))
    (turns_same (run_turn (p ∷ ps) (trimmed body) t) (run_turn (p ∷ ps) body t) (λ i v. same_run body tidy.1.1.0 t (turn_begun (p ∷ ps) i v)) count 0 w)
    ∙ same_run rest tidy.1.1.1 t (turns (run_turn (p ∷ ps) body t) count 0 w)

same_branch : (p : Part) (ps : List Part) (first other : Plan Gadget) → PlanIsTidy first → PlanIsTidy other → (t : Tape) (w : Hosts)
    → run_branch (p ∷ ps) (trimmed first) (trimmed other) t w ≡ run_branch (p ∷ ps) first other t w
same_branch p ps first other tidy tidy_too t w =
    chosen_same (is_other (p ∷ ps) w) (joint t (joint_of (trimmed other)) w) (joint t (joint_of (trimmed first)) w) (joint t (joint_of other) w) (joint t (joint_of first) w) (same_run other tidy_too t w) (same_run first tidy t w)

same_turns : (p : Part) (ps : List Part) (body : Plan Gadget) → PlanIsTidy body → (t : Tape) (n i : ℕ) (w : Hosts)
    → turns (run_turn (p ∷ ps) (trimmed body) t) n i w ≡ turns (run_turn (p ∷ ps) body t) n i w
same_turns p ps body tidy t n i w = turns_same (run_turn (p ∷ ps) (trimmed body) t) (run_turn (p ∷ ps) body t) (λ j v. same_run body tidy t (turn_begun (p ∷ ps) j v)) n i w

-- ---- the deal

both_same : {X : Type 0} (b c : Bool) (x y z q none : X) → x ≡ z → y ≡ q → if_both b c x y none ≡ if_both b c z q none
both_same true true x y z q none e f = e
both_same false false x y z q none e f = f
both_same true false x y z q none e f = refl
both_same false true x y z q none e f = refl

-- what three equations make of a function
three_same : (f : Tape → Hosts → Hosts → Tape) (u y : Tape) (w x v z : Hosts) → u ≡ y → w ≡ x → v ≡ z → f u w v ≡ f y x z
three_same f u y w x v z a b c = ap (λ (q : Tape). f q w v) a ∙ ap (λ (q : Hosts). f y q v) b ∙ ap (λ (q : Hosts). f y x q) c

again_same : (one two : ℕ → Tape → Hosts → Hosts → Tape) (turn turn' : ℕ → Hosts → Hosts) (other other' : Tape → ℕ → Hosts → Hosts)
    → ((i : ℕ) (u : Tape) (w v : Hosts) → one i u w v ≡ two i u w v) → ((i : ℕ) (w : Hosts) → turn i w ≡ turn' i w) → ((u : Tape) (i : ℕ) (v : Hosts) → other u i v ≡ other' u i v)
    → (n i : ℕ) (u : Tape) (w v : Hosts) → turns_again one turn other n i u w v ≡ turns_again two turn' other' n i u w v
again_same one two turn turn' other other' a b c zero i u w v = refl
again_same one two turn turn' other other' a b c (suc n) i u w v =
    again_same one two turn turn' other other' a b c n (suc i) (one i u w v) (turn i w) (other (one i u w v) i v)
    ∙ three_same (turns_again two turn' other' n (suc i)) (one i u w v) (two i u w v) (turn i w) (turn' i w) (other (one i u w v) i v) (other' (two i u w v) i v)
    (a i u w v) (b i w) (ap (λ (q : Tape). other q i v) (a i u w v) ∙ c (two i u w v) i v)

module _ (K : Coalition) (t : Tape) where
  same_deal : (plan : Plan Gadget) → PlanIsTidy plan → (u : Tape) (w v : Hosts) → excused K t (trimmed plan) u w v ≡ excused K t plan u w v
  same_deal Ends tidy u w v = refl
  same_deal (Then g rest) tidy u w v =
      let y : Tape = item_again K t g u w v in same_deal rest tidy.1 y (run_acts t (acts_of_gadget g) w) (run_acts y (acts_of_gadget g) v)
  same_deal (Branch [] first other rest) tidy u w v =
      let y : Tape = excused K t other u w v in
      let idle : y ≡ u = no_excuse K t other u w v tidy.1.1.0 tidy.0.2 in
      same_deal rest tidy.1.1.1 u w v
      ∙ three_same (excused K t rest) u y w (joint t (joint_of other) w) v (joint y (joint_of other) v)
      (sym idle) (sym (no_change other t w tidy.1.1.0 tidy.0.2)) (sym (no_change other y v tidy.1.1.0 tidy.0.2))
  same_deal (Branch (p ∷ ps) first other rest) tidy u w v =
      let b : Bool = is_other (p ∷ ps) w in
      let c : Bool = is_other (p ∷ ps) v in
      let y : Tape = if_both b c (excused K t (trimmed other) u w v) (excused K t (trimmed first) u w v) u in
      let z : Tape = if_both b c (excused K t other u w v) (excused K t first u w v) u in
      let same : y ≡ z = both_same b c _ _ (excused K t other u w v) (excused K t first u w v) u (same_deal other tidy.1.1.0 u w v) (same_deal first tidy.1.0 u w v) in
      same_deal rest tidy.1.1.1 y (run_branch (p ∷ ps) (trimmed first) (trimmed other) t w) (run_branch (p ∷ ps) (trimmed first) (trimmed other) y v)
      ∙ three_same (excused K t rest) y z (run_branch (p ∷ ps) (trimmed first) (trimmed other) t w) (run_branch (p ∷ ps) first other t w)
      (run_branch (p ∷ ps) (trimmed first) (trimmed other) y v) (run_branch (p ∷ ps) first other z v)
      same (same_branch p ps first other tidy.1.0 tidy.1.1.0 t w)
      (ap (λ (q : Tape). run_branch (p ∷ ps) (trimmed first) (trimmed other) q v) same ∙ same_branch p ps first other tidy.1.0 tidy.1.1.0 z v)
  same_deal (Loop [] count body rest) tidy u w v =
      let again : ℕ → Tape → Hosts → Hosts → Tape = λ i z a b. excused K t body z (turn_begun [] i a) (turn_begun [] i b) in
      let y : Tape = turns_again again (run_turn [] body t) (λ z i b. run_turn [] body z i b) count 0 u w v in
      let idle : y ≡ u = idle_again again (run_turn [] body t) (λ z i b. run_turn [] body z i b) (λ i z a b. no_excuse K t body z (turn_begun [] i a) (turn_begun [] i b) tidy.1.1.0 tidy.0.1) count 0 u w v in
      same_deal rest tidy.1.1.1 u w v
      ∙ three_same (excused K t rest) u y w (turns (run_turn [] body t) count 0 w) v (turns (run_turn [] body y) count 0 v) (sym idle)
      (sym (idle_turns (run_turn [] body t) (λ i x. no_change body t (turn_begun [] i x) tidy.1.1.0 tidy.0.1) count 0 w))
      (sym (idle_turns (run_turn [] body y) (λ i x. no_change body y (turn_begun [] i x) tidy.1.1.0 tidy.0.1) count 0 v))
  same_deal (Loop (p ∷ ps) count body rest) tidy u w v =
      let one : ℕ → Tape → Hosts → Hosts → Tape = λ i z a b. excused K t (trimmed body) z (turn_begun (p ∷ ps) i a) (turn_begun (p ∷ ps) i b) in
      let two : ℕ → Tape → Hosts → Hosts → Tape = λ i z a b. excused K t body z (turn_begun (p ∷ ps) i a) (turn_begun (p ∷ ps) i b) in
      let y : Tape = turns_again one (run_turn (p ∷ ps) (trimmed body) t) (λ z i b. run_turn (p ∷ ps) (trimmed body) z i b) count 0 u w v in
      let z : Tape = turns_again two (run_turn (p ∷ ps) body t) (λ z i b. run_turn (p ∷ ps) body z i b) count 0 u w v in
      let same : y ≡ z = again_same one two (run_turn (p ∷ ps) (trimmed body) t) (run_turn (p ∷ ps) body t) (λ z i b. run_turn (p ∷ ps) (trimmed body) z i b) (λ z i b. run_turn (p ∷ ps) body z i b)
      (λ i q a b. same_deal body tidy.1.1.0 q (turn_begun (p ∷ ps) i a) (turn_begun (p ∷ ps) i b)) (λ i x. same_run body tidy.1.1.0 t (turn_begun (p ∷ ps) i x)) (λ q i x. same_run body tidy.1.1.0 q (turn_begun (p ∷ ps) i x)) count 0 u w v in
      same_deal rest tidy.1.1.1 y (turns (run_turn (p ∷ ps) (trimmed body) t) count 0 w) (turns (run_turn (p ∷ ps) (trimmed body) y) count 0 v)
      ∙ three_same (excused K t rest) y z (turns (run_turn (p ∷ ps) (trimmed body) t) count 0 w) (turns (run_turn (p ∷ ps) body t) count 0 w)
      (turns (run_turn (p ∷ ps) (trimmed body) y) count 0 v) (turns (run_turn (p ∷ ps) body z) count 0 v)
      same (same_turns p ps body tidy.1.1.0 t count 0 w)
      (ap (λ (q : Tape). turns (run_turn (p ∷ ps) (trimmed body) q) count 0 v) same ∙ same_turns p ps body tidy.1.1.0 z count 0 v)

  abbrev both_of : Tape → Hosts → Hosts → Both
  both_of y w v = record { deal = y; first = w; second = v }

  pub same_end : (plan : Plan Gadget) → PlanIsTidy plan → (r : Both) → explained_end K t (trimmed plan) r ≡ explained_end K t plan r
  same_end plan tidy r =
      let y : Tape = excused K t (trimmed plan) r.deal r.first r.second in
      let z : Tape = excused K t plan r.deal r.first r.second in
      let same : y ≡ z = same_deal plan tidy r.deal r.first r.second in
      ap (λ (q : Tape). both_of q (joint t (joint_of (trimmed plan)) r.first) (joint q (joint_of (trimmed plan)) r.second)) same
      ∙ ap (λ (w : Hosts). both_of z w (joint z (joint_of (trimmed plan)) r.second)) (same_run plan tidy t r.first)
      ∙ ap (λ (v : Hosts). both_of z (joint t (joint_of plan) r.first) v) (same_run plan tidy z r.second)
