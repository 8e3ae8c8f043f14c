-- The registers of the word that a dealt pair converts, read off the gadgets that follow the pair.
use Rattle.std.specs.Prelude.{◌≡◌, ℕ, List, [], ◌∷◌, Option, Some, None, slice_get}
use Rattle.vd_base.specs.declared.ids.HostId.{HostId}
use Rattle.vd_base.specs.declared.protocols.Proto.{Proto}
use Rattle.vd_core.specs.declared.normal.NormalForm.{NormalForm}
use Rattle.vd_execution.specs.declared.instructions.Reg.{Reg}
use Rattle.vd_execution.specs.declared.instructions.Action.{Action}
use Rattle.vd_execution.specs.declared.instructions.Action.TheVariants as action
use Rattle.vd_execution.specs.Gadgets.{Pairing, Gadget, Alone, Tells, Shares, BothShare, Opens, Masked, Paired}
use Rattle.vd_execution.specs.Plans.{Plan, Ends, Then, Branch, Loop}
use Rattle.vd_backend_laws.specs.Whole.{plan_at}

-- a host, and its register of a part
abbrev pub Place : Type 0
Place = HostId × Reg

-- the first operand of an operation
abbrev pub operand_in : HostId → Action → Option Place
operand_in h (action.Apply o r x y) = Some (h, x)
operand_in h a = None

-- the host that acts by itself
abbrev pub alone_in : Gadget → Option HostId
alone_in (Alone h a) = Some h
alone_in g = None

-- what it applies an operation to
abbrev pub applied_in : Gadget → Option Place
applied_in (Alone h a) = operand_in h a
applied_in g = None

-- the second host of a masked product, and its first operand
abbrev pub masked_in : Gadget → Option Place
masked_in (Masked sharing m n) = Some (n.host, n.x)
masked_in g = None

abbrev pub seen : {X : Type 0} → (Gadget → Option X) → Option Gadget → Option X
seen f None = None
seen f (Some g) = f g

-- the two parts of the word that a pair converts, as the gadgets that follow it tell them
pub record IsReadOff (p q : Pairing) (rest : List Gadget) : Type 0 where
  pub number : seen alone_in (slice_get rest 0) ≡ Some p.host
  pub first : seen applied_in (slice_get rest 1) ≡ Some (p.host, p.word)
  pub second : seen masked_in (slice_get rest 2) ≡ Some (q.host, q.word)

abbrev pub GadgetIsReadOff : Gadget → List Gadget → Type 0
GadgetIsReadOff (Alone h a) rest = Unit {0}
GadgetIsReadOff (Tells a said b heard) rest = Unit {0}
GadgetIsReadOff (Shares a r b heard) rest = Unit {0}
GadgetIsReadOff (BothShare a r heard b q heard_b) rest = Unit {0}
GadgetIsReadOff (Opens sharing a x b y heard) rest = Unit {0}
GadgetIsReadOff (Masked sharing m n) rest = Unit {0}
GadgetIsReadOff (Paired p q) rest = IsReadOff p q rest

-- the gadgets of a plan up to its first branch or loop
abbrev pub front : Plan Gadget → List Gadget
front Ends = []
front (Then g rest) = g ∷ front rest
front (Branch ps first other rest) = []
front (Loop ps count body rest) = []

-- so with each pair of a plan
abbrev pub PlanIsReadOff : Plan Gadget → Type 0
PlanIsReadOff Ends = Unit {0}
PlanIsReadOff (Then g rest) = GadgetIsReadOff g (front rest) × PlanIsReadOff rest
PlanIsReadOff (Branch ps first other rest) = PlanIsReadOff first × (PlanIsReadOff other × PlanIsReadOff rest)
PlanIsReadOff (Loop ps count body rest) = PlanIsReadOff body × PlanIsReadOff rest

-- and so it is in the plan of each program, wherever its words stand
abbrev pub PairsAreReadOff : Type 0
PairsAreReadOff = (program : NormalForm) (proto : ℕ → Proto) → PlanIsReadOff (plan_at proto program)
