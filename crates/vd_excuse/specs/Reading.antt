-- Joint lines, read from the first to the last: the steps of the block that is open, and the blocks around it.
use Rattle.std.specs.Prelude.{ℕ, ◌+◌, ◌-◌, nat_eq, nat_le, not, ◌&&◌, if◌then◌else◌, Bool, true, false, List, [], ◌∷◌, ◌++◌, Option, Some, None, is_none, length, unwrap_or}
use Rattle.std.specs.List.{list_any}
use Rattle.vd_execution.specs.declared.instructions.Act.{Act}
use Rattle.vd_execution.specs.declared.instructions.Line.{Line}
use Rattle.vd_execution.specs.declared.instructions.Line.TheVariants as line
use Rattle.vd_execution.specs.Joint.{Part}
use Rattle.vd_excuse_walk.specs.declared.equivocation_laws.step.Hidden.{Hidden}
use Rattle.vd_excuse_walk.specs.declared.equivocation_laws.step.Step.{Step, Hide, Act as ActStep, Branch as BranchStep, Loop as LoopStep}
use Rattle.vd_excuse.specs.declared.equivocation_steps.block.Kind.{Kind}
use Rattle.vd_excuse.specs.declared.equivocation_steps.block.Kind.TheVariants as kind
use Rattle.vd_excuse.specs.declared.equivocation_steps.block.Block.{Block}
use Rattle.vd_excuse.specs.Ahead.{hidden_by_act}

-- what was read: the steps of this block, and the blocks that are open, the innermost first
pub record Reading : Type 0 where
  pub steps : List Step
  pub blocks : List Block

abbrev pub nothing_read : Reading
nothing_read = record { steps = []; blocks = [] }

-- ---- blocks

abbrev pub same_kind : Kind → Kind → Bool
same_kind kind.Branch kind.Branch = true
same_kind (kind.Loop n) (kind.Loop m) = true
same_kind kind.Branch (kind.Loop m) = false
same_kind (kind.Loop n) kind.Branch = false

abbrev pub in_first : Block → Bool
in_first b = is_none b.first

abbrev pub takes_part : ℕ → List Part → Bool
takes_part h ps = list_any (λ p. nat_eq p.0 h) ps

-- whether a host can still be added to a block
abbrev pub lacks : ℕ → Block → Bool
lacks h b = in_first b && not (takes_part h b.parts)

abbrev pub suits : Kind → ℕ → Block → Bool
suits k h b = same_kind k b.kind && lacks h b

-- whether a host that opens a block of a kind takes part in the one that has just been opened
abbrev pub joins : Kind → List Step → ℕ → Block → Bool
joins k steps h b = nat_eq (length steps) 0 && suits k h b

abbrev pub joined : Part → Block → Block
joined p b = record b { parts = b.parts ++ p ∷ [] }

abbrev pub is_last_end : Block → Bool
is_last_end b = nat_le (length b.parts - b.ended) 1

abbrev pub made_of : Kind → List Part → Option (List Step) → List Step → Step
made_of kind.Branch ps first last = BranchStep ps (unwrap_or first []) last
made_of (kind.Loop n) ps first last = LoopStep ps n last

abbrev pub closed : List Step → Block → List Step
closed last b = b.before ++ made_of b.kind b.parts b.first last ∷ []

-- ---- lines

-- a block opens
abbrev pub begun : Kind → Part → Reading → Reading
begun k p r = record { steps = []; blocks = record { before = r.steps; parts = p ∷ []; kind = k; first = None; ended = 0 } ∷ r.blocks }

abbrev pub opened_in : Kind → Part → List Step → List Block → Reading
opened_in k p steps [] = begun k p (record { steps = steps; blocks = [] })
opened_in k p steps (b ∷ bs) =
    if joins k steps p.0 b then record { steps = steps; blocks = joined p b ∷ bs } else begun k p (record { steps = steps; blocks = b ∷ bs })

abbrev pub opened : Kind → Part → Reading → Reading
opened k p r = opened_in k p r.steps r.blocks

-- the other part of a branch begins
abbrev pub turned_in : List Step → List Block → Reading
turned_in steps [] = record { steps = steps; blocks = [] }
turned_in steps (b ∷ bs) =
    if in_first b then record { steps = []; blocks = record b { first = Some steps } ∷ bs } else record { steps = steps; blocks = b ∷ bs }

abbrev pub turned : Reading → Reading
turned r = turned_in r.steps r.blocks

-- a block ends at one host
abbrev pub ended_in : List Step → List Block → Reading
ended_in steps [] = record { steps = steps; blocks = [] }
ended_in steps (b ∷ bs) =
    if is_last_end b then record { steps = closed steps b; blocks = bs } else record { steps = steps; blocks = record b { ended = b.ended + 1 } ∷ bs }

abbrev pub ended : Reading → Reading
ended r = ended_in r.steps r.blocks

abbrev pub hiding : Option Hidden → List Step
hiding None = []
hiding (Some x) = Hide x ∷ []

-- hosts act
abbrev pub acted : Act → List Line → Reading → Reading
acted a behind r = record r { steps = r.steps ++ (hiding (hidden_by_act a behind) ++ ActStep a ∷ []) }

abbrev pub with_line : Line → List Line → Reading → Reading
with_line (line.Act a) behind r = acted a behind r
with_line (line.If h g) behind r = opened kind.Branch (h.0, g.0) r
with_line (line.Else h) behind r = turned r
with_line (line.For h c count) behind r = opened (kind.Loop count) (h.0, c.0) r
with_line (line.End h) behind r = ended r

abbrev pub read : List Line → Reading → Reading
read [] r = r
read (l ∷ lines) r = read lines (with_line l lines r)
