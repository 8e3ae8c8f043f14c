-- What is proved of two runs along the steps of a plan.
use Rattle.std.specs.Prelude.{◌≡◌}
use Rattle.vd_execution.specs.World.{Tape}
use Rattle.vd_execution.specs.Joint.{joint}
use Rattle.vd_execution.specs.Gadgets.{Gadget}
use Rattle.vd_execution.specs.Plans.{Plan, joint_of}
use Rattle.vd_views.specs.Views.{Coalition}
use Rattle.vd_views.specs.Excused.{excused}
use Rattle.vd_excuse_walk.specs.Steps.{steps_of}
use Rattle.vd_excuse_walk.specs.Walks.{Both, both_steps, walks}

-- the deal that explains, and both runs at their ends
abbrev pub explained_end : Coalition → Tape → Plan Gadget → Both → Both
explained_end K t plan r =
    let y : Tape = excused K t plan r.deal r.first r.second in
    record { deal = y; first = joint t (joint_of plan) r.first; second = joint y (joint_of plan) r.second }

abbrev pub WalksExcuse : Type 0
WalksExcuse = (K : Coalition) (t : Tape) (plan : Plan Gadget) (r : Both) → both_steps (walks K t (steps_of plan)) r ≡ explained_end K t plan r
