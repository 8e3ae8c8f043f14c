-- A plan of gadgets runs as its joint code does.
use Rattle.std.proofs.Common.{◌≡◌, ℕ, zero, suc, ◌+◌, ◌<◌, ◌&&◌, nat_eq, Bool, true, false, if◌then◌else◌, List, [], ◌∷◌, inl, inr, refl, sym, ap, ap₂, subst, ◌∙◌, arith, rules}
use mathlib.Core.Path.{fun_ext}
use Rattle.vd_semantics.specs.Turns.{turns}
use Rattle.vd_execution.specs.declared.instructions.Act.{Act}
use Rattle.vd_execution.specs.declared.instructions.Act.TheVariants as act
use Rattle.vd_execution.specs.Registers.{put, Registers}
use Rattle.vd_execution.specs.World.{Tape}
use Rattle.vd_execution.specs.Joint.{Joint as Code, Hosts, Host, Part, Apart, TakesPart, GuardsAre, AllTurns, IsSmooth, if_part, turn_begun, joint as run_code, turns as code_turns}
use Rattle.vd_execution.proofs.Front.{smooth_first}
use Rattle.vd_execution.specs.Acts.{do_then, run_act, run_acts, ActsAreWithin}
use Rattle.vd_execution.specs.Gadgets.{Gadget, Alone, Tells, Shares, BothShare, Opens, Masked, Paired, BySums, ByXors, acts_of_gadget}
use Rattle.vd_execution.specs.Plans.{Plan, Ends, Then, Branch, Loop, joint_of, PlanIsWithin, PlanIsTidy}
use Rattle.vd_split.specs.Joint.{Each, joint, choice, Goes}
use Rattle.vd_backend_laws.specs.Machine.{machine, given_turn}
use Rattle.vd_backend_laws.specs.PlanRuns.{RunsAlike, GoesSmoothly}

acts_run : (t : Tape) (acts : List Act) (rest : Code) (w : Hosts) → run_code t (do_then acts rest) w ≡ run_code t rest (run_acts t acts w)
acts_run t [] rest w = refl
acts_run t (act.Do h a ∷ acts) rest w = acts_run t acts rest (run_act t (act.Do h a) w)
acts_run t (act.Msg a said b heard ∷ acts) rest w = acts_run t acts rest (run_act t (act.Msg a said b heard) w)

-- turns from the first on are turns up to the last
last_turn : {W : Type 0} (f : ℕ → W → W) (n i : ℕ) (w : W) → code_turns f (suc n) i w ≡ f (i + n) (code_turns f n i w)
last_turn f zero i w = ap (λ k. f k w) (omega arith)
last_turn f (suc n) i w = last_turn f n (suc i) (f i w) ∙ ap (λ k. f k (code_turns f n (suc i) (f i w))) (omega arith)

pub turns_alike : {W : Type 0} (f : ℕ → W → W) (n : ℕ) (w : W) → turns n f w ≡ code_turns f n 0 w
turns_alike f zero w = refl
turns_alike f (suc n) w = ap (f n) (turns_alike f n w) ∙ ap (λ k. f k (code_turns f n 0 w)) (omega arith) ∙ sym (last_turn f n 0 w)

put_is : (f : Registers) (i a j : ℕ) → (if nat_eq j i then a else f j) ≡ put f i a j
unfolding put
put_is f i a j = refl

not_among : (ps : List Part) (turn h : ℕ) (f : Registers) (r : ℕ) → (TakesPart ps h → ⊥) → given_turn ps turn h f r ≡ f r
not_among [] turn h f r n = refl
not_among (p ∷ ps) turn h f r n = ap (λ (b : Bool). if b && nat_eq r p.1 then turn else given_turn ps turn h f r) (differs h p.0 (λ e. n (inl e))) ∙ not_among ps turn h f r (λ i. n (inr i))
  where
    differs : (a b : ℕ) → (a ≡ b → ⊥) → nat_eq a b ≡ false
    differs a b d = grind (arith, rules)

equal_of : (a b : ℕ) → nat_eq a b ≡ true → a ≡ b
equal_of a b e = grind (arith, rules)

begun_alike : (ps : List Part) (turn h : ℕ) (s : Host) → Apart ps
    → record s { registers = given_turn ps turn h s.registers } ≡ if_part ps h (λ counter. record s { registers = put s.registers counter turn }) s
begun_alike [] turn h s apart = refl
begun_alike (p ∷ ps) turn h s apart = at (begun_alike ps turn h s apart.1) (nat_eq h p.0) refl
  where
    at : record s { registers = given_turn ps turn h s.registers } ≡ if_part ps h (λ counter. record s { registers = put s.registers counter turn }) s
        → (b : Bool) → nat_eq h p.0 ≡ b
        → record s { registers = λ r. if b && nat_eq r p.1 then turn else given_turn ps turn h s.registers r }
        ≡ (if b then record s { registers = put s.registers p.1 turn } else if_part ps h (λ counter. record s { registers = put s.registers counter turn }) s)
    at again true e =
        ap (λ (f : Registers). record s { registers = f })
        (fun_ext (λ r. ap (λ z. if nat_eq r p.1 then turn else z) (not_among ps turn h s.registers r (λ i. apart.0 (subst (TakesPart ps) (equal_of h p.0 e) i))) ∙ put_is s.registers p.1 turn r))
    at again false e = again

chosen : (b : Bool) (x y : Hosts) → choice b x y ≡ (if b then x else y)
chosen true x y = refl
chosen false x y = refl

-- ---- where nobody takes part nothing happens

somebody : (g : Gadget) → ActsAreWithin [] (acts_of_gadget g) → ⊥
somebody (Alone h a) w = w.0
somebody (Tells a said b heard) w = w.0.0
somebody (Shares a r b heard) w = w.0
somebody (BothShare a r heard b q heard_b) w = w.0
somebody (Opens sharing a x b y heard) w = w.0.0
somebody (Masked BySums m n) w = w.0
somebody (Masked ByXors m n) w = w.0
somebody (Paired p q) w = w.0

no_turn : {W : Type 0} (f : ℕ → W → W) → ((i : ℕ) (v : W) → f i v ≡ v) → (n i : ℕ) (w : W) → code_turns f n i w ≡ w
no_turn f idle zero i w = refl
no_turn f idle (suc n) i w = no_turn f idle n (suc i) (f i w) ∙ idle i w

idle_runs : (t : Tape) (plan : Plan Gadget) → PlanIsTidy plan → PlanIsWithin [] plan → (w : Hosts) → run_code t (joint_of plan) w ≡ w
idle_runs t Ends tidy within w = refl
idle_runs t (Then g rest) tidy within w = absurd (somebody g within.0)
idle_runs t (Branch [] first other rest) tidy within w =
    ap (run_code t (joint_of rest)) (idle_runs t other tidy.1.1.0 tidy.0.2 w) ∙ idle_runs t rest tidy.1.1.1 within.1 w
idle_runs t (Branch (q ∷ qs) first other rest) tidy within w = absurd (within.0 q.0 (inl refl))
idle_runs t (Loop [] count body rest) tidy within w =
    ap (run_code t (joint_of rest)) (no_turn (λ i v. run_code t (joint_of body) (turn_begun [] i v)) (λ i v. idle_runs t body tidy.1.1.0 tidy.0.1 (turn_begun [] i v)) count 0 w)
    ∙ idle_runs t rest tidy.1.1.1 within.1 w
idle_runs t (Loop (q ∷ qs) count body rest) tidy within w = absurd (within.0 q.0 (inl refl))

pub runs_alike : RunsAlike
runs_alike t inputs Ends w tidy = refl
runs_alike t inputs (Then g rest) w tidy = runs_alike t inputs rest (run_acts t (acts_of_gadget g) w) tidy.1 ∙ sym (acts_run t (acts_of_gadget g) (joint_of rest) w)
runs_alike t inputs (Branch [] first other rest) w tidy =
    runs_alike t inputs rest w tidy.1.1.1 ∙ ap (run_code t (joint_of rest)) (sym (idle_runs t other tidy.1.1.0 tidy.0.2 w))
runs_alike t inputs (Branch (p ∷ ps) first other rest) w tidy =
    let b : Bool = nat_eq ((w p.0).registers p.1) 0 in
    runs_alike t inputs rest (choice b (joint (machine t inputs) other w) (joint (machine t inputs) first w)) tidy.1.1.1
    ∙ ap (run_code t (joint_of rest)) (chosen b (joint (machine t inputs) other w) (joint (machine t inputs) first w)
    ∙ ap₂ (λ (x y : Hosts). if b then x else y) (runs_alike t inputs other w tidy.1.1.0) (runs_alike t inputs first w tidy.1.0))
runs_alike t inputs (Loop ps count body rest) w tidy =
    runs_alike t inputs rest (turns count (λ i v. joint (machine t inputs) body ((machine t inputs).begun ps i v)) w) tidy.1.1.1
    ∙ ap (run_code t (joint_of rest)) (turns_alike (λ i v. joint (machine t inputs) body ((machine t inputs).begun ps i v)) count w
    ∙ ap (λ (f : ℕ → Hosts → Hosts). code_turns f count 0 w)
    (fun_ext (λ i. fun_ext (λ v. runs_alike t inputs body ((machine t inputs).begun ps i v) tidy.1.1.0
    ∙ ap (run_code t (joint_of body)) (fun_ext (λ h. begun_alike ps i h (v h) tidy.0.0))))))

-- ---- what goes well runs smoothly

guards : (b : Bool) (ps : List Part) (w : Hosts) → Each (λ q. nat_eq ((w q.0).registers q.1) 0 ≡ b) ps → GuardsAre b ps w
guards b [] w e = tt
guards b (p ∷ ps) w e = (e.0, guards b ps w e.1)

all_turns : {W : Type 0} (P : ℕ → W → Type 0) (f : ℕ → W → W) (n k : ℕ) (w : W) → ((i : ℕ) → i < n → P (k + i) (code_turns f i k w)) → AllTurns P f n k w
all_turns P f zero k w each = tt
all_turns P f (suc n) k w each = (
  subst (λ z. P z w) (omega arith) (each 0 (omega arith)),
  all_turns P f n (suc k) (f k w) (λ i lt. subst (λ z. P z (code_turns f i (suc k) (f k w))) (omega arith) (each (suc i) (omega (arith, lt)))),
)

all_from_first : {W : Type 0} (P : ℕ → W → Type 0) (f : ℕ → W → W) (n : ℕ) (w : W) → ((i : ℕ) → i < n → P i (code_turns f i 0 w)) → AllTurns P f n 0 w
all_from_first P f n w each = all_turns P f n 0 w (λ i lt. subst (λ z. P z (code_turns f i 0 w)) (omega arith) (each i lt))

pub begun_is : (t : Tape) (inputs : ℕ → List ℕ) (ps : List Part) → Apart ps → (i : ℕ) (v : Hosts) → (machine t inputs).begun ps i v ≡ turn_begun ps i v
begun_is t inputs ps apart i v = fun_ext (λ h. begun_alike ps i h (v h) apart)

module _ (t : Tape) (inputs : ℕ → List ℕ) (ps : List Part) (apart : Apart ps) (body : Plan Gadget) (inner : PlanIsTidy body) where
  one_turn : (i : ℕ) (v : Hosts) → joint (machine t inputs) body ((machine t inputs).begun ps i v) ≡ run_code t (joint_of body) (turn_begun ps i v)
  one_turn i v = runs_alike t inputs body ((machine t inputs).begun ps i v) inner ∙ ap (run_code t (joint_of body)) (begun_is t inputs ps apart i v)

  many_turns : (n : ℕ) (w : Hosts)
      → turns n (λ i v. joint (machine t inputs) body ((machine t inputs).begun ps i v)) w ≡ code_turns (λ i v. run_code t (joint_of body) (turn_begun ps i v)) n 0 w
  many_turns n w =
      turns_alike (λ i v. joint (machine t inputs) body ((machine t inputs).begun ps i v)) n w
      ∙ ap (λ (f : ℕ → Hosts → Hosts). code_turns f n 0 w) (fun_ext (λ i. fun_ext (λ v. one_turn i v)))

idle_smooth : (t : Tape) (plan : Plan Gadget) → PlanIsTidy plan → PlanIsWithin [] plan → (w : Hosts) → IsSmooth t (joint_of plan) w
idle_smooth t Ends tidy within w = tt
idle_smooth t (Then g rest) tidy within w = absurd (somebody g within.0)
idle_smooth t (Branch [] first other rest) tidy within w = (
  tt,
  (((λ e. idle_smooth t other tidy.1.1.0 tidy.0.2 w), (λ e. idle_smooth t first tidy.1.0 tidy.0.1 w)), idle_smooth t rest tidy.1.1.1 within.1 (run_code t (joint_of other) w)),
)
idle_smooth t (Branch (q ∷ qs) first other rest) tidy within w = absurd (within.0 q.0 (inl refl))
idle_smooth t (Loop [] count body rest) tidy within w = (
  all_from_first (λ i v. IsSmooth t (joint_of body) (turn_begun [] i v)) (λ i v. run_code t (joint_of body) (turn_begun [] i v)) count w
      (λ i lt. idle_smooth t body tidy.1.1.0 tidy.0.1 (turn_begun [] i (code_turns (λ k v. run_code t (joint_of body) (turn_begun [] k v)) i 0 w))),
  idle_smooth t rest tidy.1.1.1 within.1 (code_turns (λ i v. run_code t (joint_of body) (turn_begun [] i v)) count 0 w),
)
idle_smooth t (Loop (q ∷ qs) count body rest) tidy within w = absurd (within.0 q.0 (inl refl))

pub goes_smoothly : GoesSmoothly
goes_smoothly t inputs Ends w tidy goes = tt
goes_smoothly t inputs (Then g rest) w tidy goes =
    smooth_first t (acts_of_gadget g) (joint_of rest) w goes.0.0 (goes_smoothly t inputs rest (run_acts t (acts_of_gadget g) w) tidy.1 goes.1)
goes_smoothly t inputs (Branch [] first other rest) w tidy goes = (
  tt,
  (
    ((λ e. idle_smooth t other tidy.1.1.0 tidy.0.2 w), (λ e. idle_smooth t first tidy.1.0 tidy.0.1 w)),
    subst (IsSmooth t (joint_of rest)) (sym (idle_runs t other tidy.1.1.0 tidy.0.2 w)) (goes_smoothly t inputs rest w tidy.1.1.1 goes.2),
  ),
)
goes_smoothly t inputs (Branch (p ∷ ps) first other rest) w tidy goes =
    let b : Bool = nat_eq ((w p.0).registers p.1) 0 in
    let each = goes.0.1 in (
      subst (λ (z : Bool). GuardsAre z (p ∷ ps) w) (sym each.0) (guards goes.0.0 (p ∷ ps) w each),
      (
        (
          (λ e. goes_smoothly t inputs other w tidy.1.1.0
              (subst (λ (z : Bool). choice z (Goes (machine t inputs) other w) (Goes (machine t inputs) first w)) e goes.1)),
          (λ e. goes_smoothly t inputs first w tidy.1.0
              (subst (λ (z : Bool). choice z (Goes (machine t inputs) other w) (Goes (machine t inputs) first w)) e goes.1)),
        ),
        subst (IsSmooth t (joint_of rest))
            (chosen b (joint (machine t inputs) other w) (joint (machine t inputs) first w)
            ∙ ap₂ (λ (x y : Hosts). if b then x else y) (runs_alike t inputs other w tidy.1.1.0) (runs_alike t inputs first w tidy.1.0))
            (goes_smoothly t inputs rest (choice b (joint (machine t inputs) other w) (joint (machine t inputs) first w)) tidy.1.1.1 goes.2),
      ),
    )
goes_smoothly t inputs (Loop ps count body rest) w tidy goes = (
  all_from_first (λ i v. IsSmooth t (joint_of body) (turn_begun ps i v)) (λ i v. run_code t (joint_of body) (turn_begun ps i v)) count w
      (λ i lt. subst (λ (v : Hosts). IsSmooth t (joint_of body) v)
      (begun_is t inputs ps tidy.0.0 i (turns i (λ k v. joint (machine t inputs) body ((machine t inputs).begun ps k v)) w)
      ∙ ap (turn_begun ps i) (many_turns t inputs ps tidy.0.0 body tidy.1.1.0 i w))
      (goes_smoothly t inputs body ((machine t inputs).begun ps i (turns i (λ k v. joint (machine t inputs) body ((machine t inputs).begun ps k v)) w)) tidy.1.1.0 (goes.0 i lt))),
  subst (IsSmooth t (joint_of rest)) (many_turns t inputs ps tidy.0.0 body tidy.1.1.0 count w)
      (goes_smoothly t inputs rest (turns count (λ i v. joint (machine t inputs) body ((machine t inputs).begun ps i v)) w) tidy.1.1.1 goes.1),
)
