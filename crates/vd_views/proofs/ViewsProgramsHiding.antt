-- What is hidden along two runs of plans one after the other, and of a plan in which no host of the coalition takes part.
use Rattle.std.proofs.Common.{List, [], ◌∷◌, sym, subst₂}
use Rattle.vd_execution.specs.World.{Tape}
use Rattle.vd_execution.specs.Joint.{Part, Hosts, turns, joint}
use Rattle.vd_execution.specs.Acts.{run_acts}
use Rattle.vd_execution.specs.Gadgets.{Gadget, acts_of_gadget}
use Rattle.vd_execution.specs.Plans.{Plan, Ends, Then, Branch, Loop, joint_of, PlanIsWithin}
use Rattle.vd_execution.proofs.Front.{runs_first}
use Rattle.vd_views.specs.Views.{Coalition, Concerns}
use Rattle.vd_views.specs.Hiding.{AlongGadgets, GadgetHides}
use Rattle.vd_views.specs.Plans.{run_branch, run_turn, PlanHides}
use Rattle.vd_views.specs.Hides.{Hides}
use Rattle.vd_split.specs.Joint.{acts_then, and_then}
use Rattle.vd_views.specs.Sides.{after}
use Rattle.vd_views.proofs.ViewsBackendsPlans.{inner}

module _ (K : Coalition) (t u : Tape) where
  -- a plan in which no host of the coalition takes part
  pub idle : (ps : List Part) (plan : Plan Gadget) → PlanIsWithin ps plan → (Concerns ps K → ⊥) → (w v : Hosts) → PlanHides K t u plan w v → Hides K t u plan w v
  idle ps Ends i out w v a = tt
  idle ps (Then g rest) i out w v a = (a.0, idle ps rest i.1 out (run_acts t (acts_of_gadget g) w) (run_acts u (acts_of_gadget g) v) a.1)
  idle ps (Branch qs first other rest) i out w v a = ((λ c _. absurd (inner K ps out qs i.0 c)), idle ps rest i.1 out (run_branch qs first other t w) (run_branch qs first other u v) a.1)
  idle ps (Loop qs count body rest) i out w v a = ((λ c. absurd (inner K ps out qs i.0 c)), idle ps rest i.1 out (turns (run_turn qs body t) count 0 w) (turns (run_turn qs body u) count 0 v) a.1)

  pub hides_split : (a b : Plan Gadget) (w v : Hosts) → Hides K t u (and_then a b) w v → Hides K t u a w v × Hides K t u b (joint t (joint_of a) w) (joint u (joint_of a) v)
  hides_split Ends b w v p = (tt, p)
  hides_split (Then g r) b w v p =
      let rest = hides_split r b (run_acts t (acts_of_gadget g) w) (run_acts u (acts_of_gadget g) v) p.1 in
      ((p.0, rest.0), subst₂ (λ (x z : Hosts). Hides K t u b x z) (sym (runs_first t (acts_of_gadget g) (joint_of r) w)) (sym (runs_first u (acts_of_gadget g) (joint_of r) v)) rest.1)
  hides_split (Branch ps x o r) b w v p = let rest = hides_split r b (run_branch ps x o t w) (run_branch ps x o u v) p.1 in ((p.0, rest.0), rest.1)
  hides_split (Loop ps n body r) b w v p = let rest = hides_split r b (turns (run_turn ps body t) n 0 w) (turns (run_turn ps body u) n 0 v) p.1 in ((p.0, rest.0), rest.1)

  pub hides_behind : (xs : List Gadget) (j : Plan Gadget) (w v : Hosts) → Hides K t u (acts_then xs j) w v → AlongGadgets (GadgetHides K t u) t u xs w v × Hides K t u j (after t xs w) (after u xs v)
  hides_behind [] j w v p = (tt, p)
  hides_behind (x ∷ xs) j w v p = let rest = hides_behind xs j (run_acts t (acts_of_gadget x) w) (run_acts u (acts_of_gadget x) v) p.1 in ((p.0, rest.0), rest.1)
