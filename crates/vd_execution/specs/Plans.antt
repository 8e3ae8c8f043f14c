-- Plans: what hosts do, in program order, with branches and loops. The plan of a program is over gadgets.
use Rattle.std.specs.Prelude.{ℕ, ◌^◌, ◌≤◌, List}
use Rattle.vd_execution.specs.Joint.{Part, TakesPart, Apart, Joint, Done, If, For}
use Rattle.vd_execution.specs.Acts.{do_then, ActsAreWithin}
use Rattle.vd_execution.specs.Gadgets.{Gadget, acts_of_gadget, GadgetIsTidy}

-- steps of any kind. Each form is followed by the rest
pub data Plan (A : Type 0) : Type 0 where
  Ends : Plan A
  Then : (step : A) (rest : Plan A) → Plan A
  Branch : (parts : List Part) (first other rest : Plan A) → Plan A
  Loop : (parts : List Part) (count : ℕ) (body rest : Plan A) → Plan A

-- the joint code of a plan of gadgets
abbrev pub joint_of : Plan Gadget → Joint
joint_of Ends = Done
joint_of (Then g rest) = do_then (acts_of_gadget g) (joint_of rest)
joint_of (Branch ps first other rest) = If ps (joint_of first) (joint_of other) (joint_of rest)
joint_of (Loop ps count body rest) = For ps count (joint_of body) (joint_of rest)

-- all that act take part
abbrev pub PlanIsWithin : List Part → Plan Gadget → Type 0
PlanIsWithin ps Ends = Unit {0}
PlanIsWithin ps (Then g rest) = ActsAreWithin ps (acts_of_gadget g) × PlanIsWithin ps rest
PlanIsWithin ps (Branch qs first other rest) = ((h : ℕ) → TakesPart qs h → TakesPart ps h) × PlanIsWithin ps rest
PlanIsWithin ps (Loop qs count body rest) = ((h : ℕ) → TakesPart qs h → TakesPart ps h) × PlanIsWithin ps rest

-- each gadget is tidy, all that act in a block take part in it, each once, and a loop has a word of turns
abbrev pub PlanIsTidy : Plan Gadget → Type 0
PlanIsTidy Ends = Unit {0}
PlanIsTidy (Then g rest) = GadgetIsTidy g × PlanIsTidy rest
PlanIsTidy (Branch ps first other rest) =
    (Apart ps × PlanIsWithin ps first × PlanIsWithin ps other) × (PlanIsTidy first × (PlanIsTidy other × PlanIsTidy rest))
PlanIsTidy (Loop ps count body rest) =
    (Apart ps × PlanIsWithin ps body) × ((count ≤ 2 ^ 32) × (PlanIsTidy body × PlanIsTidy rest))
