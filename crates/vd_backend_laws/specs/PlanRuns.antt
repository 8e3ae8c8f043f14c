-- The plan of gadgets that the splitter makes, and the joint code that hosts execute.
use Rattle.std.specs.Prelude.{◌≡◌, ℕ, List}
use Rattle.vd_execution.specs.World.{Tape}
use Rattle.vd_execution.specs.Joint.{Hosts, IsSmooth, joint as run_code}
use Rattle.vd_execution.specs.Gadgets.{Gadget}
use Rattle.vd_execution.specs.Plans.{Plan, joint_of, PlanIsTidy}
use Rattle.vd_split.specs.Joint.{joint, Goes}
use Rattle.vd_split.specs.ChoreographyPlaces.{Tidy}
use Rattle.vd_backend_laws.specs.Machine.{machine}

-- a tidy plan runs as its joint code does
abbrev pub RunsAlike : Type 0
RunsAlike = (t : Tape) (inputs : ℕ → List ℕ) (plan : Plan Gadget) (w : Hosts) → PlanIsTidy plan
    → joint (machine t inputs) plan w ≡ run_code t (joint_of plan) w

-- where it goes well, its joint code runs smoothly
abbrev pub GoesSmoothly : Type 0
GoesSmoothly = (t : Tape) (inputs : ℕ → List ℕ) (plan : Plan Gadget) (w : Hosts) → PlanIsTidy plan
    → Goes (machine t inputs) plan w → IsSmooth t (joint_of plan) w

-- a plan that is tidy for the theory of splitting is so for the schedules
abbrev pub TidyAlike : Type 0
TidyAlike = (t : Tape) (inputs : ℕ → List ℕ) (plan : Plan Gadget) → Tidy (machine t inputs) plan → PlanIsTidy plan
