-- A block in which no host takes part does nothing, and has no lines.
use Rattle.std.proofs.Common.{◌≡◌, ℕ, zero, suc, List, [], ◌∷◌, refl, ◌∙◌, inl}
use Rattle.vd_execution.specs.declared.instructions.Line.{Line}
use Rattle.vd_execution.specs.World.{Tape}
use Rattle.vd_execution.specs.Joint.{Hosts, turn_begun, turns, joint}
use Rattle.vd_execution.specs.Acts.{ActsAreWithin}
use Rattle.vd_execution.specs.Gadgets.{Gadget, Alone, Tells, Shares, BothShare, Opens, Masked, Paired, acts_of_gadget}
use Rattle.vd_execution.specs.Plans.{Plan, Ends, Then, Branch, Loop, joint_of, PlanIsWithin, PlanIsTidy}
use Rattle.vd_execution.specs.Text.{flat}
use Rattle.vd_views.specs.Views.{Coalition}
use Rattle.vd_views.specs.Plans.{run_turn}
use Rattle.vd_views.specs.Excused.{turns_again, excused}

-- some host acts in a gadget
somebody : {X : Type 0} (g : Gadget) → ActsAreWithin [] (acts_of_gadget g) → X
somebody (Alone h a) w = absurd w.0
somebody (Tells a said b heard) w = absurd w.0.0
somebody (Shares a r b heard) w = absurd w.0
somebody (BothShare a r heard b q heard_b) w = absurd w.0
somebody (Opens sharing a x b y heard) w = absurd w.0.0
somebody (Masked sharing m n) w = absurd w.0
somebody (Paired p q) w = absurd w.0

pub no_lines : (plan : Plan Gadget) (behind : List Line) → PlanIsTidy plan → PlanIsWithin [] plan → flat (joint_of plan) behind ≡ behind
no_lines Ends behind tidy w = refl
no_lines (Then g rest) behind tidy w = somebody g w.0
no_lines (Branch [] first other rest) behind tidy w =
    no_lines first (flat (joint_of other) (flat (joint_of rest) behind)) tidy.1.0 tidy.0.1
    ∙ no_lines other (flat (joint_of rest) behind) tidy.1.1.0 tidy.0.2
    ∙ no_lines rest behind tidy.1.1.1 w.1
no_lines (Branch (p ∷ ps) first other rest) behind tidy w = absurd (w.0 p.0 (inl refl))
no_lines (Loop [] count body rest) behind tidy w = no_lines body (flat (joint_of rest) behind) tidy.1.1.0 tidy.0.1 ∙ no_lines rest behind tidy.1.1.1 w.1
no_lines (Loop (p ∷ ps) count body rest) behind tidy w = absurd (w.0 p.0 (inl refl))

pub idle_turns : {W : Type 0} (f : ℕ → W → W) → ((i : ℕ) (w : W) → f i w ≡ w) → (n i : ℕ) (w : W) → turns f n i w ≡ w
idle_turns f idle zero i w = refl
idle_turns f idle (suc n) i w = idle_turns f idle n (suc i) (f i w) ∙ idle i w

pub no_change : (plan : Plan Gadget) (t : Tape) (w : Hosts) → PlanIsTidy plan → PlanIsWithin [] plan → joint t (joint_of plan) w ≡ w
no_change Ends t w tidy none = refl
no_change (Then g rest) t w tidy none = somebody g none.0
no_change (Branch [] first other rest) t w tidy none = no_change rest t (joint t (joint_of other) w) tidy.1.1.1 none.1 ∙ no_change other t w tidy.1.1.0 tidy.0.2
no_change (Branch (p ∷ ps) first other rest) t w tidy none = absurd (none.0 p.0 (inl refl))
no_change (Loop [] count body rest) t w tidy none =
    no_change rest t (turns (run_turn [] body t) count 0 w) tidy.1.1.1 none.1
    ∙ idle_turns (run_turn [] body t) (λ i v. no_change body t (turn_begun [] i v) tidy.1.1.0 tidy.0.1) count 0 w
no_change (Loop (p ∷ ps) count body rest) t w tidy none = absurd (none.0 p.0 (inl refl))

pub idle_again : (again : ℕ → Tape → Hosts → Hosts → Tape) (turn : ℕ → Hosts → Hosts) (other : Tape → ℕ → Hosts → Hosts) → ((i : ℕ) (u : Tape) (w v : Hosts) → again i u w v ≡ u)
    → (n i : ℕ) (u : Tape) (w v : Hosts) → turns_again again turn other n i u w v ≡ u
idle_again again turn other idle zero i u w v = refl
idle_again again turn other idle (suc n) i u w v = idle_again again turn other idle n (suc i) (again i u w v) (turn i w) (other (again i u w v) i v) ∙ idle i u w v

pub no_excuse : (K : Coalition) (t : Tape) (plan : Plan Gadget) (u : Tape) (w v : Hosts) → PlanIsTidy plan → PlanIsWithin [] plan → excused K t plan u w v ≡ u
no_excuse K t Ends u w v tidy none = refl
no_excuse K t (Then g rest) u w v tidy none = somebody g none.0
no_excuse K t (Branch [] first other rest) u w v tidy none =
    no_excuse K t rest (excused K t other u w v) (joint t (joint_of other) w) (joint (excused K t other u w v) (joint_of other) v) tidy.1.1.1 none.1 ∙ no_excuse K t other u w v tidy.1.1.0 tidy.0.2
no_excuse K t (Branch (p ∷ ps) first other rest) u w v tidy none = absurd (none.0 p.0 (inl refl))
no_excuse K t (Loop [] count body rest) u w v tidy none =
    let again : ℕ → Tape → Hosts → Hosts → Tape = λ i z a b. excused K t body z (turn_begun [] i a) (turn_begun [] i b) in
    let y : Tape = turns_again again (run_turn [] body t) (λ z i b. run_turn [] body z i b) count 0 u w v in
    no_excuse K t rest y (turns (run_turn [] body t) count 0 w) (turns (run_turn [] body y) count 0 v) tidy.1.1.1 none.1
    ∙ idle_again again (run_turn [] body t) (λ z i b. run_turn [] body z i b) (λ i z a b. no_excuse K t body z (turn_begun [] i a) (turn_begun [] i b) tidy.1.1.0 tidy.0.1) count 0 u w v
no_excuse K t (Loop (p ∷ ps) count body rest) u w v tidy none = absurd (none.0 p.0 (inl refl))
