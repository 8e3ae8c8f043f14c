-- Under whatever schedules two runs go that look alike to a coalition: what its hosts print and are told in either is a prefix of the same.
use Rattle.std.specs.Prelude.{◌≡◌, ℕ, List}
use Rattle.vd_base.specs.declared.protocols.Proto.{Proto}
use Rattle.vd_core.specs.declared.normal.NormalForm.{NormalForm}
use Rattle.vd_constraints.specs.declared.labels.Labels.{Labels}
use Rattle.vd_execution.specs.World.{World, Tape, endless, IsPrefixOf, AllEnded}
use Rattle.vd_execution.specs.Gadgets.{Gadget}
use Rattle.vd_execution.specs.Plans.{Plan, joint_of}
use Rattle.vd_execution.specs.Claims.{reached}
use Rattle.vd_views.specs.Views.{Coalition, IsIn}
use Rattle.vd_views.specs.Contract.{Explains}
use Rattle.vd_noninter_protocols.specs.Told.{IsDealt}
use Rattle.vd_projection.specs.Assignments.{IsValidFor}
use Rattle.vd_views.specs.Explained.{plan_of, input_words}

-- the world that a schedule reaches with this deal
abbrev pub world_after : Plan Gadget → Tape → List ℕ → World
world_after plan t schedule = reached (endless t) (joint_of plan) schedule

-- what a host has printed, and what each host has sent to it, are prefixes of the same lists in both worlds; and at the end of both
-- the host is the same
pub record SeesFronts (K : Coalition) (a b : World) : Type 0 where
  pub prints : ℕ → List ℕ
  pub printed : (h : ℕ) → IsIn K h → IsPrefixOf (a h).printed (prints h)
  pub printed_too : (h : ℕ) → IsIn K h → IsPrefixOf (b h).printed (prints h)
  pub packets : ℕ → ℕ → List (List ℕ)
  pub told : (h : ℕ) → IsIn K h → (g : ℕ) → IsPrefixOf ((a g).sent h) (packets g h)
  pub told_too : (h : ℕ) → IsIn K h → (g : ℕ) → IsPrefixOf ((b g).sent h) (packets g h)
  pub ends : (h : ℕ) → IsIn K h → AllEnded a → AllEnded b → a h ≡ b h

abbrev pub SeesFrontsInAnyOrder : Type 0
SeesFrontsInAnyOrder =
    (p : NormalForm) (l : Labels) (protocols : List Proto) → IsValidFor p l protocols → (K : Coalition) → (first second : List (List ℕ)) (t y : Tape) → IsDealt first t → IsDealt second y
    → Explains K (plan_of p protocols) t (input_words second) y → (a b : List ℕ) → SeesFronts K (world_after (plan_of p protocols) t a) (world_after (plan_of p protocols) y b)
