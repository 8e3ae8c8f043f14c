-- Plans of which all registers are below a bound.
use Rattle.std.proofs.Common.{ℕ, suc, ◌<◌, ◌≤◌, List, [], ◌∷◌, arith}
use Rattle.vd_execution.specs.Gadgets.{Gadget}
use Rattle.vd_execution.specs.Plans.{Plan, Ends, Then, Branch, Loop}
use Rattle.vd_duet.specs.Laws.{Each}
use Rattle.vd_split.specs.Joint.{acts_then, and_then}
use Rattle.vd_projection.specs.Fits.{GadgetFits}

module _ (hosts N : ℕ) where
  -- and at most so many blocks are open at once
  abbrev pub PlanFits : ℕ → Plan Gadget → Type 0
  PlanFits d Ends = Unit {0}
  PlanFits d (Then g rest) = GadgetFits hosts N g × PlanFits d rest
  PlanFits d (Branch ps first other rest) = Each (λ (p : ℕ × ℕ). p.1 < N) ps × ((c : ℕ) × (suc c ≤ d) × PlanFits c first × PlanFits c other) × PlanFits d rest
  PlanFits d (Loop ps count body rest) = Each (λ (p : ℕ × ℕ). p.1 < N) ps × ((c : ℕ) × (suc c ≤ d) × PlanFits c body) × PlanFits d rest

  pub plan_wider : (c d : ℕ) (plan : Plan Gadget) → c ≤ d → PlanFits c plan → PlanFits d plan
  plan_wider c d Ends le f = tt
  plan_wider c d (Then g rest) le f = (f.0, plan_wider c d rest le f.1)
  plan_wider c d (Branch ps first other rest) le f = (f.0, (f.1.0, wide f.1.1, f.1.2, f.1.3), plan_wider c d rest le f.2)
    where
      wide : {b : ℕ} → suc b ≤ c → suc b ≤ d
      wide {b} lt = omega (arith, lt, le)
  plan_wider c d (Loop ps count body rest) le f = (f.0, (f.1.0, wide f.1.1, f.1.2), plan_wider c d rest le f.2)
    where
      wide : {b : ℕ} → suc b ≤ c → suc b ≤ d
      wide {b} lt = omega (arith, lt, le)

  pub plans_fit : (d : ℕ) (p q : Plan Gadget) → PlanFits d p → PlanFits d q → PlanFits d (and_then p q)
  plans_fit d Ends q f g = g
  plans_fit d (Then x rest) q f g = (f.0, plans_fit d rest q f.1 g)
  plans_fit d (Branch ps first other rest) q f g = (f.0, f.1, plans_fit d rest q f.2 g)
  plans_fit d (Loop ps count body rest) q f g = (f.0, f.1, plans_fit d rest q f.2 g)

  pub acts_fit : (d : ℕ) (gs : List Gadget) (p : Plan Gadget) → Each (GadgetFits hosts N) gs → PlanFits d p → PlanFits d (acts_then gs p)
  acts_fit d [] p f g = g
  acts_fit d (x ∷ gs) p f g = (f.0, acts_fit d gs p f.1 g)
