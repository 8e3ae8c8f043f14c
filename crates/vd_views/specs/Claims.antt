-- What is claimed of two runs, and of the deals that explain one by another.
use Rattle.std.specs.Prelude.{◌≡◌, ℕ, List}
use Rattle.vd_execution.specs.declared.instructions.Act.{Act}
use Rattle.vd_execution.specs.World.{Tape}
use Rattle.vd_execution.specs.Deals.{IsValidDeal}
use Rattle.vd_execution.specs.Joint.{Joint, Hosts, joint, IsSmooth}
use Rattle.vd_execution.specs.Acts.{do_then, run_acts}
use Rattle.vd_execution.specs.Gadgets.{Sharing, Masking, source_of, Gadget, acts_of_gadgets, IsSound}
use Rattle.vd_execution.specs.Plans.{Plan, joint_of}
use Rattle.vd_views.specs.Views.{Coalition, SameParts, LooksAlike, LookAlike, TellsAlike, ActsTellAlike}
use Rattle.vd_views.specs.Hiding.{next_item, HidesAlike, GadgetsHide, GadgetsKnow, TakenAlike, IsAnotherDeal, IsExcuse}
use Rattle.vd_views.specs.Plans.{PlanHides, PlanKnows, PlanChooses, IsViewExcuse}
use Rattle.vd_views.specs.Items.{IsSameItem}
use Rattle.vd_views.specs.Hides.{Hides}
use Rattle.vd_views.specs.Excused.{excused}

-- two runs begin: the deals are valid and the states sound
pub record AreSound (t u : Tape) (w v : Hosts) : Type 0 where
  pub first_deal : IsValidDeal t
  pub second_deal : IsValidDeal u
  pub first : IsSound w
  pub second : IsSound v

-- and h has the same part of both deals, and looks the same
pub record StartAlike (h : ℕ) (t u : Tape) (w v : Hosts) : Type 0 where
  pub part : t h ≡ u h
  pub looks : LooksAlike h w v

-- ---- what is told alike leaves h alike

abbrev pub JointKeepsAlike : ℕ → Tape → Tape → Joint → Type 0
JointKeepsAlike h t u j =
    (w v : Hosts) → StartAlike h t u w v → IsSmooth t j w → IsSmooth u j v → TellsAlike h t u j w v → LooksAlike h (joint t j w) (joint u j v)

abbrev pub ActsKeepAlike : ℕ → Tape → Tape → List Act → Type 0
ActsKeepAlike h t u acts = (w v : Hosts) → StartAlike h t u w v → ActsTellAlike h t u acts w v → LooksAlike h (run_acts t acts w) (run_acts u acts v)

-- what acts tell first, and the joint code after them, is what both tell
abbrev pub TellsFirst : ℕ → Tape → Tape → List Act → Joint → Type 0
TellsFirst h t u acts j =
    (w v : Hosts) → ActsTellAlike h t u acts w v → TellsAlike h t u j (run_acts t acts w) (run_acts u acts v) → TellsAlike h t u (do_then acts j) w v

-- the hosts of a coalition have the same parts of both deals, and look the same
pub record StartTogether (K : Coalition) (t u : Tape) (w v : Hosts) : Type 0 where
  pub part : SameParts K t u
  pub looks : LookAlike K w v

-- ---- what is hidden alike, and told the same openly, leaves the coalition alike

abbrev pub GadgetsKeepAlike : Coalition → Tape → Tape → List Gadget → Type 0
GadgetsKeepAlike K t u gs =
    (w v : Hosts) → AreSound t u w v → StartTogether K t u w v → GadgetsHide K t u gs w v → GadgetsKnow K t u gs w v
    → LookAlike K (run_acts t (acts_of_gadgets gs) w) (run_acts u (acts_of_gadgets gs) v)

-- ---- the second deal

abbrev pub HasExcuse : Coalition → Tape → Tape → List Gadget → Hosts → Hosts → Type 0
HasExcuse K t u gs w v = (y : Tape) × IsExcuse K t u gs w v y

-- two runs of a plan: the first is smooth, and under every other deal so is the second; and where what items hide is hidden
-- alike, as far as both take the same branches, the coalition reads the same guards and is told the same openly
pub record AllowsExcuse (K : Coalition) (t u : Tape) (plan : Plan Gadget) (w v : Hosts) : Type 0 where
  pub sound : AreSound t u w v
  pub start : StartTogether K t u w v
  pub smooth : IsSmooth t (joint_of plan) w
  pub smooth_too : (y : Tape) → IsAnotherDeal K u v y → IsSmooth y (joint_of plan) v
  pub knows : (y : Tape) → IsAnotherDeal K u v y → Hides K t y plan w v → PlanChooses K t y plan w v × PlanKnows K t y plan w v

-- the deal that is computed along both runs
abbrev pub HasViewExcuse : Coalition → Tape → Tape → Plan Gadget → Hosts → Hosts → Type 0
HasViewExcuse K t u plan w v = IsViewExcuse K t u plan w v (excused K t plan u w v)

-- ---- the way back

-- exchanged, gadgets hide alike, and so does a plan where the coalition reads the same guards
abbrev pub GadgetsHideBack : Coalition → Tape → Tape → List Gadget → Type 0
GadgetsHideBack K t u gs = (w v : Hosts) → GadgetsHide K t u gs w v → GadgetsHide K u t gs v w

abbrev pub PlanHidesBack : Coalition → Tape → Tape → Plan Gadget → Type 0
PlanHidesBack K t u plan = (w v : Hosts) → PlanChooses K t u plan w v → PlanHides K t u plan w v → PlanHides K u t plan v w

-- the item of the other host by which the product hides alike is the only one
abbrev pub IsOnlyItem : ℕ → Tape → Tape → Tape → Sharing → Masking → Type 0
IsOnlyItem h t y z sharing m =
    (w v : Hosts) → HidesAlike sharing m h t y w v → HidesAlike sharing m h t z w v
    → IsSameItem (next_item y v m.host.0 (source_of sharing h)) (next_item z v m.host.0 (source_of sharing h))

-- the items by which gadgets hide alike are the only ones
abbrev pub AreOnlyItems : Coalition → Tape → Tape → Tape → List Gadget → Type 0
AreOnlyItems K t y z gs =
    (w v : Hosts) → GadgetsHide K t y gs w v → GadgetsHide K t z gs w v → TakenAlike v y z → TakenAlike (run_acts y (acts_of_gadgets gs) v) y z
