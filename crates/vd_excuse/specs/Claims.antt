-- Of which plans the steps can be read from lines, and what is known of them.
use Rattle.std.specs.Prelude.{◌≡◌, List}
use Rattle.vd_execution.specs.World.{Tape}
use Rattle.vd_execution.specs.Gadgets.{Gadget}
use Rattle.vd_execution.specs.Plans.{Plan, PlanIsTidy}
use Rattle.vd_views.specs.Views.{Coalition}
use Rattle.vd_views.specs.ReadOff.{PlanIsReadOff}
use Rattle.vd_excuse_walk.specs.declared.equivocation_laws.step.Step.{Step}
use Rattle.vd_excuse_walk.specs.Walks.{Both, both_steps, walks}
use Rattle.vd_excuse_walk.specs.EquivocationLawsClaims.{explained_end}

-- a tidy plan, of which each word that a pair converts can be read off what follows the pair
pub record CanBeStepped (plan : Plan Gadget) : Type 0 where
  pub tidy : PlanIsTidy plan
  pub read_off : PlanIsReadOff plan

-- who goes along the steps in both runs has at the end the deal that explains the second run, and both runs at their ends
abbrev pub LeadTo : List Step → Plan Gadget → Type 0
LeadTo steps plan = (K : Coalition) (t : Tape) (r : Both) → both_steps (walks K t steps) r ≡ explained_end K t plan r
