-- Gadgets in a row, as a plan.
use Rattle.std.proofs.Common.{◌≡◌, List, [], ◌∷◌, ◌++◌, refl, sym, subst₂, ◌∙◌}
use Rattle.vd_execution.specs.declared.instructions.Act.{Act}
use Rattle.vd_execution.specs.World.{Tape}
use Rattle.vd_execution.specs.Joint.{Hosts, joint, IsSmooth}
use Rattle.vd_execution.specs.Acts.{run_act, run_acts, ActsAgree}
use Rattle.vd_execution.specs.Gadgets.{Gadget, acts_of_gadget, acts_of_gadgets, GadgetsAreTidy}
use Rattle.vd_execution.specs.Plans.{joint_of, PlanIsTidy}
use Rattle.vd_execution.proofs.Front.{runs_first, smooth_first}
use Rattle.vd_views.specs.Hiding.{GadgetsHide, GadgetsKnow}
use Rattle.vd_views.specs.Views.{Coalition}
use Rattle.vd_views.specs.Plans.{in_a_row, PlanHides, PlanKnows, PlanChooses}
use Rattle.vd_views.proofs.Hiding.{run_append}

pub row_tidy : (gs : List Gadget) → GadgetsAreTidy gs → PlanIsTidy (in_a_row gs)
row_tidy [] tidy = tt
row_tidy (g ∷ gs) tidy = (tidy.0, row_tidy gs tidy.1)

agree_split : (t : Tape) (xs ys : List Act) (w : Hosts) → ActsAgree t (xs ++ ys) w → ActsAgree t xs w × ActsAgree t ys (run_acts t xs w)
agree_split t [] ys w a = (tt, a)
agree_split t (x ∷ xs) ys w a = let rest = agree_split t xs ys (run_act t x w) a.1 in ((a.0, rest.0), rest.1)

-- where words that are compared are the same, the run is smooth
pub row_smooth : (t : Tape) (gs : List Gadget) (w : Hosts) → ActsAgree t (acts_of_gadgets gs) w → IsSmooth t (joint_of (in_a_row gs)) w
row_smooth t [] w agrees = tt
row_smooth t (g ∷ gs) w agrees =
    let both = agree_split t (acts_of_gadget g) (acts_of_gadgets gs) w agrees in
    smooth_first t (acts_of_gadget g) (joint_of (in_a_row gs)) w both.0 (row_smooth t gs (run_acts t (acts_of_gadget g) w) both.1)

-- there is no guard
pub row_chooses : (K : Coalition) (t u : Tape) (gs : List Gadget) (w v : Hosts) → PlanChooses K t u (in_a_row gs) w v
row_chooses K t u [] w v = tt
row_chooses K t u (g ∷ gs) w v = (tt, row_chooses K t u gs (run_acts t (acts_of_gadget g) w) (run_acts u (acts_of_gadget g) v))

pub row_knows : (K : Coalition) (t u : Tape) (gs : List Gadget) (w v : Hosts) → GadgetsKnow K t u gs w v → PlanKnows K t u (in_a_row gs) w v
row_knows K t u [] w v k = tt
row_knows K t u (g ∷ gs) w v k = (k.0, row_knows K t u gs (run_acts t (acts_of_gadget g) w) (run_acts u (acts_of_gadget g) v) k.1)

pub row_hidden : (K : Coalition) (t u : Tape) (gs : List Gadget) (w v : Hosts) → GadgetsHide K t u gs w v → PlanHides K t u (in_a_row gs) w v
row_hidden K t u [] w v k = tt
row_hidden K t u (g ∷ gs) w v k = (k.0, row_hidden K t u gs (run_acts t (acts_of_gadget g) w) (run_acts u (acts_of_gadget g) v) k.1)

pub row_runs : (t : Tape) (gs : List Gadget) (w : Hosts) → joint t (joint_of (in_a_row gs)) w ≡ run_acts t (acts_of_gadgets gs) w
row_runs t [] w = refl
row_runs t (g ∷ gs) w =
    runs_first t (acts_of_gadget g) (joint_of (in_a_row gs)) w ∙ row_runs t gs (run_acts t (acts_of_gadget g) w)
    ∙ sym (run_append t (acts_of_gadget g) (acts_of_gadgets gs) w)

pub know_append : (K : Coalition) (t u : Tape) (xs ys : List Gadget) (w v : Hosts) → GadgetsKnow K t u xs w v
    → GadgetsKnow K t u ys (run_acts t (acts_of_gadgets xs) w) (run_acts u (acts_of_gadgets xs) v) → GadgetsKnow K t u (xs ++ ys) w v
know_append K t u [] ys w v a b = b
know_append K t u (g ∷ xs) ys w v a b =
    let P : Hosts → Hosts → Type 0 = λ x y. GadgetsKnow K t u ys x y in (
      a.0,
      know_append K t u xs ys (run_acts t (acts_of_gadget g) w) (run_acts u (acts_of_gadget g) v) a.1
          (subst₂ P (run_append t (acts_of_gadget g) (acts_of_gadgets xs) w) (run_append u (acts_of_gadget g) (acts_of_gadgets xs) v) b),
    )
