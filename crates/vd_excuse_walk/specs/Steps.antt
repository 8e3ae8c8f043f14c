-- The steps of a plan: before each item that two hosts share, what it will hide; acts, branches and loops.
use Rattle.std.specs.Prelude.{List, [], ◌∷◌, ◌++◌, map}
use Rattle.vd_execution.specs.Gadgets.{BySums, ByXors, Masking, Pairing, Gadget, Alone, Tells, Shares, BothShare, Opens, Masked, Paired, acts_of_gadget}
use Rattle.vd_execution.specs.Plans.{Plan, Ends, Then, Branch, Loop}
use Rattle.vd_excuse_walk.specs.declared.equivocation_laws.step.Operands.{Operands}
use Rattle.vd_excuse_walk.specs.declared.equivocation_laws.step.Part.{Part}
use Rattle.vd_excuse_walk.specs.declared.equivocation_laws.step.Hidden.{Hidden}
use Rattle.vd_excuse_walk.specs.declared.equivocation_laws.step.Hidden.TheVariants.{Product, Bits, Word}
use Rattle.vd_excuse_walk.specs.declared.equivocation_laws.step.Step.{Step, Hide, Act, Branch as BranchStep, Loop as LoopStep}

abbrev pub operands_of : Masking → Operands
operands_of m = record { host = m.host; x = m.x; y = m.y }

abbrev pub part_of : Pairing → Part
part_of p = record { host = p.host; word = p.word }

-- what the items of a gadget hide
abbrev pub hidden_by : Gadget → List Hidden
hidden_by (Alone g a) = []
hidden_by (Tells a said b heard) = []
hidden_by (Shares a r b heard) = []
hidden_by (BothShare a r heard b q heard_b) = []
hidden_by (Opens sharing a x b y heard) = []
hidden_by (Masked BySums m n) = Product (operands_of m) (operands_of n) ∷ []
hidden_by (Masked ByXors m n) = Bits (operands_of m) (operands_of n) ∷ []
hidden_by (Paired p q) = Word (part_of p) (part_of q) ∷ []

abbrev pub steps_of : Plan Gadget → List Step
steps_of Ends = []
steps_of (Then g rest) = map Hide (hidden_by g) ++ (map Act (acts_of_gadget g) ++ steps_of rest)
steps_of (Branch ps first other rest) = BranchStep ps (steps_of first) (steps_of other) ∷ steps_of rest
steps_of (Loop ps count body rest) = LoopStep ps count (steps_of body) ∷ steps_of rest
