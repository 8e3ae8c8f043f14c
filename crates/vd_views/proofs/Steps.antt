-- Plans in two runs, one after the other: the coalition is told openly the same, reads the same guards, and the words that are
-- still to come agree.
use Rattle.std.proofs.Common.{◌≡◌, ℕ, List, [], ◌∷◌, sym, subst₂, ◌∙◌}
use Rattle.vd_execution.specs.World.{Tape}
use Rattle.vd_execution.specs.Joint.{Part, Hosts, is_other, joint as run_code}
use Rattle.vd_execution.specs.Gadgets.{Gadget}
use Rattle.vd_execution.specs.Plans.{Plan, Ends, Branch, Loop, joint_of, PlanIsWithin, PlanIsTidy}
use Rattle.vd_views.specs.Hiding.{GadgetKnows}
use Rattle.vd_views.specs.Views.{Coalition, IsIn}
use Rattle.vd_views.specs.Plans.{NoGuard, PlanKnows, PlanChooses}
use Rattle.vd_split.specs.Joint.{acts_then, and_then, joint, Goes}
use Rattle.vd_backend_laws.specs.Machine.{machine}
use Rattle.vd_backend_laws.proofs.Front.{runs_alike, goes_smoothly}
use Rattle.vd_views.specs.Moved.{OwnAlike}
use Rattle.vd_views.specs.Sides.{AreKin, Both, Telling}
use Rattle.vd_views.proofs.ViewsBackendsPlans.{plan_both}
use Rattle.vd_views.specs.Hides.{Hides}
use Rattle.vd_views.proofs.Plans.{all_hidden}
use Rattle.vd_views.proofs.ViewsProgramsHiding.{hides_split, hides_behind}
use Rattle.vd_views.proofs.Compose.{plan_on, acts_on, tidy_split, acts_tidy, within_split, nothing_along}
use Rattle.vd_views.proofs.Given.{own_behind, own_split}

-- what is known of a plan whatever the states
pub record Static (plan : Plan Gadget) : Type 0 where
  pub parts : List Part
  pub within : PlanIsWithin parts plan
  pub tidy : PlanIsTidy plan

static_split : (a b : Plan Gadget) → Static (and_then a b) → Static a × Static b
static_split a b s =
    let i = within_split s.parts a b s.within in
    let d = tidy_split a b s.tidy in (
      record { parts = s.parts; within = i.0; tidy = d.0 },
      record { parts = s.parts; within = i.1; tidy = d.1 },
    )

pub static_first : (ps : List Part) (first other rest : Plan Gadget) → Static (Branch ps first other rest) → Static first
static_first ps first other rest s = record { parts = ps; within = s.tidy.0.1; tidy = s.tidy.1.0 }

pub static_other : (ps : List Part) (first other rest : Plan Gadget) → Static (Branch ps first other rest) → Static other
static_other ps first other rest s = record { parts = ps; within = s.tidy.0.2; tidy = s.tidy.1.1.0 }

pub static_body : (ps : List Part) (count : ℕ) (body rest : Plan Gadget) → Static (Loop ps count body rest) → Static body
static_body ps count body rest s = record { parts = ps; within = s.tidy.0.1; tidy = s.tidy.1.1.0 }

-- a plan behind gadgets
pub static_behind : (xs : List Gadget) (j : Plan Gadget) → Static (acts_then xs j) → Static j
static_behind [] j s = s
static_behind (x ∷ xs) j s = static_behind xs j (record { parts = s.parts; within = s.within.1; tidy = s.tidy.1 })

-- the coalition is told openly the same, and reads the same guards; and what is still to come to each of its hosts agrees
pub record Concluded (K : Coalition) (t u : Tape) (plan : Plan Gadget) (w v : Hosts) (xs ys : ℕ → List ℕ) : Type 0 where
  pub knows : PlanKnows K t u plan w v
  pub chooses : PlanChooses K t u plan w v
  pub rest : (g : ℕ) → IsIn K g → xs g ≡ ys g

module _ (K : Coalition) (t u : Tape) (kin : AreKin K t u) (inputs others : ℕ → List ℕ) where
  -- gadgets alone
  pub acts_concluded : (gs : List Gadget) (w v : Hosts) (xs ys : ℕ → List ℕ) → Static (acts_then gs Ends) → Both K w v → Hides K t u (acts_then gs Ends) w v → OwnAlike K t u (acts_then gs Ends) w v → Telling K t u gs w v → ((g : ℕ) → IsIn K g → xs g ≡ ys g)
      → Concluded K t u (acts_then gs Ends) w v xs ys
  acts_concluded gs w v xs ys s both hides owns tells e = record {
    knows = acts_on K (GadgetKnows K t u) NoGuard t u gs Ends w v (tells both (acts_tidy gs Ends s.tidy).0 (hides_behind K t u gs Ends w v hides).0 (own_behind K t u gs Ends w v owns).0) tt;
    chooses = acts_on K (λ g x y. Unit {0}) (λ ps x y. is_other ps x ≡ is_other ps y) t u gs Ends w v (nothing_along t u gs w v) tt;
    rest = e;
  }

  pub both_after : (plan : Plan Gadget) (w v w1 v1 : Hosts) (xs ys : ℕ → List ℕ) → Static plan → Both K w v → joint (machine t inputs) plan w ≡ w1 → Goes (machine t inputs) plan w
      → joint (machine u others) plan v ≡ v1 → Goes (machine u others) plan v → Hides K t u plan w v → Concluded K t u plan w v xs ys → Both K w1 v1
  both_after plan w v w1 v1 xs ys s both r1 g1 r2 g2 hides c =
      subst₂ (λ (x z : Hosts). Both K x z) (sym (runs_alike t inputs plan w s.tidy) ∙ r1) (sym (runs_alike u others plan v s.tidy) ∙ r2)
      (plan_both K t u kin plan s.tidy w v both (goes_smoothly t inputs plan w s.tidy g1) (goes_smoothly u others plan v s.tidy g2)
      (all_hidden K t u plan w v hides c.chooses) c.knows)

  -- a plan, and then another
  pub and_rest : (a b : Plan Gadget) (w v w1 v1 : Hosts) (mids others' xs ys : ℕ → List ℕ) → Static (and_then a b) → Both K w v → joint (machine t inputs) a w ≡ w1 → Goes (machine t inputs) a w
      → joint (machine u others) a v ≡ v1 → Goes (machine u others) a v → Hides K t u (and_then a b) w v → OwnAlike K t u (and_then a b) w v → (Static a → Hides K t u a w v → OwnAlike K t u a w v → Concluded K t u a w v mids others')
      → (Static b → Both K w1 v1 → Hides K t u b w1 v1 → OwnAlike K t u b w1 v1 → ((g : ℕ) → IsIn K g → mids g ≡ others' g) → Concluded K t u b w1 v1 xs ys) → Concluded K t u (and_then a b) w v xs ys
  and_rest a b w v w1 v1 mids others' xs ys s both r1 g1 r2 g2 hides owns first second =
      let parts = static_split a b s in
      let hs = hides_split K t u a b w v hides in
      let os = own_split K t u a b w v owns in
      let one = first parts.0 hs.0 os.0 in
      let e1 : run_code t (joint_of a) w ≡ w1 = sym (runs_alike t inputs a w parts.0.tidy) ∙ r1 in
      let e2 : run_code u (joint_of a) v ≡ v1 = sym (runs_alike u others a v parts.0.tidy) ∙ r2 in
      let more = second parts.1 (both_after a w v w1 v1 mids others' parts.0 both r1 g1 r2 g2 hs.0 one) (subst₂ (λ (x z : Hosts). Hides K t u b x z) e1 e2 hs.1) (subst₂ (λ (x z : Hosts). OwnAlike K t u b x z) e1 e2 (os.1 one.chooses)) one.rest in
      record {
        knows = plan_on K (GadgetKnows K t u) NoGuard t u a b w v one.knows (subst₂ (λ (x z : Hosts). PlanKnows K t u b x z) (sym e1) (sym e2) more.knows);
        chooses = plan_on K (λ g x y. Unit {0}) (λ ps x y. is_other ps x ≡ is_other ps y) t u a b w v one.chooses (subst₂ (λ (x z : Hosts). PlanChooses K t u b x z) (sym e1) (sym e2) more.chooses);
        rest = more.rest;
      }
