-- Plans one after the other: what holds along both runs, and that they are tidy, plain and within.
use Rattle.std.proofs.Common.{List, [], ◌∷◌, subst₂}
use Rattle.vd_execution.specs.World.{Tape}
use Rattle.vd_execution.specs.Joint.{Part, Hosts, joint, turns}
use Rattle.vd_execution.specs.Acts.{run_acts}
use Rattle.vd_execution.specs.Gadgets.{Gadget, acts_of_gadget, GadgetsAreTidy}
use Rattle.vd_execution.specs.Plans.{Plan, Ends, Then, Branch, Loop, joint_of, PlanIsWithin, PlanIsTidy}
use Rattle.vd_execution.proofs.Front.{runs_first}
use Rattle.vd_views.specs.Views.{Coalition}
use Rattle.vd_views.specs.Hiding.{AlongGadgets}
use Rattle.vd_views.specs.Plans.{AlongPlan, run_branch, run_turn}
use Rattle.vd_split.specs.Joint.{acts_then, and_then}
use Rattle.vd_views.specs.Sides.{after, Each, IsPlain, PlanIsPlain}

module _ (K : Coalition) (P : Gadget → Hosts → Hosts → Type 0) (G : List Part → Hosts → Hosts → Type 0) (t u : Tape) where
  abbrev pub Along : Plan Gadget → Hosts → Hosts → Type 0
  Along plan w v = AlongPlan K P G t u plan w v

  pub plan_on : (a b : Plan Gadget) (w v : Hosts) → Along a w v → Along b (joint t (joint_of a) w) (joint u (joint_of a) v) → Along (and_then a b) w v
  plan_on Ends b w v p q = q
  plan_on (Then g r) b w v p q = (
    p.0,
    plan_on r b (run_acts t (acts_of_gadget g) w) (run_acts u (acts_of_gadget g) v) p.1
        (subst₂ (λ (x z : Hosts). Along b x z) (runs_first t (acts_of_gadget g) (joint_of r) w) (runs_first u (acts_of_gadget g) (joint_of r) v) q),
  )
  plan_on (Branch ps x o r) b w v p q = (p.0, plan_on r b (run_branch ps x o t w) (run_branch ps x o u v) p.1 q)
  plan_on (Loop ps n body r) b w v p q = (p.0, plan_on r b (turns (run_turn ps body t) n 0 w) (turns (run_turn ps body u) n 0 v) p.1 q)

  pub acts_on : (xs : List Gadget) (j : Plan Gadget) (w v : Hosts) → AlongGadgets P t u xs w v → Along j (after t xs w) (after u xs v) → Along (acts_then xs j) w v
  acts_on [] j w v p q = q
  acts_on (x ∷ xs) j w v p q = (p.0, acts_on xs j (run_acts t (acts_of_gadget x) w) (run_acts u (acts_of_gadget x) v) p.1 q)

-- ---- what is static

pub tidy_split : (a b : Plan Gadget) → PlanIsTidy (and_then a b) → PlanIsTidy a × PlanIsTidy b
tidy_split Ends b p = (tt, p)
tidy_split (Then g r) b p = let rest = tidy_split r b p.1 in ((p.0, rest.0), rest.1)
tidy_split (Branch ps x o r) b p = let rest = tidy_split r b p.1.1.1 in ((p.0, (p.1.0, (p.1.1.0, rest.0))), rest.1)
tidy_split (Loop ps n body r) b p = let rest = tidy_split r b p.1.1.1 in ((p.0, (p.1.0, (p.1.1.0, rest.0))), rest.1)

pub acts_tidy : (xs : List Gadget) (j : Plan Gadget) → PlanIsTidy (acts_then xs j) → GadgetsAreTidy xs × PlanIsTidy j
acts_tidy [] j p = (tt, p)
acts_tidy (x ∷ xs) j p = let rest = acts_tidy xs j p.1 in ((p.0, rest.0), rest.1)

pub within_split : (ps : List Part) (a b : Plan Gadget) → PlanIsWithin ps (and_then a b) → PlanIsWithin ps a × PlanIsWithin ps b
within_split ps Ends b p = (tt, p)
within_split ps (Then g r) b p = let rest = within_split ps r b p.1 in ((p.0, rest.0), rest.1)
within_split ps (Branch qs x o r) b p = let rest = within_split ps r b p.1 in ((p.0, rest.0), rest.1)
within_split ps (Loop qs n body r) b p = let rest = within_split ps r b p.1 in ((p.0, rest.0), rest.1)

pub plain_on : (K : Coalition) (a b : Plan Gadget) → PlanIsPlain K a → PlanIsPlain K b → PlanIsPlain K (and_then a b)
plain_on K Ends b p q = q
plain_on K (Then g r) b p q = (p.0, plain_on K r b p.1 q)
plain_on K (Branch ps x o r) b p q = (p.0, (p.1.0, plain_on K r b p.1.1 q))
plain_on K (Loop ps n body r) b p q = (p.0, plain_on K r b p.1 q)

pub plain_acts : (K : Coalition) (xs : List Gadget) (j : Plan Gadget) → Each (IsPlain K) xs → PlanIsPlain K j → PlanIsPlain K (acts_then xs j)
plain_acts K [] j p q = q
plain_acts K (x ∷ xs) j p q = (p.0, plain_acts K xs j p.1 q)

pub nothing_along : (t u : Tape) (xs : List Gadget) (w v : Hosts) → AlongGadgets (λ g x y. Unit {0}) t u xs w v
nothing_along t u [] w v = tt
nothing_along t u (x ∷ xs) w v = (tt, nothing_along t u xs (run_acts t (acts_of_gadget x) w) (run_acts u (acts_of_gadget x) v))
