-- What a dealt item hides, as the lines behind it tell.
use Rattle.std.specs.Prelude.{ℕ, ◌+◌, if◌then◌else◌, Bool, true, false, List, Option, Some, None, slice_get}
use Rattle.vd_base.specs.declared.ids.HostId.{HostId}
use Rattle.vd_execution.specs.declared.instructions.Action.{Action}
use Rattle.vd_execution.specs.declared.instructions.Action.TheVariants as action
use Rattle.vd_execution.specs.declared.instructions.Act.{Act}
use Rattle.vd_execution.specs.declared.instructions.Act.TheVariants as act
use Rattle.vd_execution.specs.declared.instructions.Line.{Line}
use Rattle.vd_execution.specs.declared.instructions.Line.TheVariants as line
use Rattle.vd_excuse_walk.specs.declared.equivocation_laws.step.Operands.{Operands}
use Rattle.vd_excuse_walk.specs.declared.equivocation_laws.step.Part.{Part}
use Rattle.vd_excuse_walk.specs.declared.equivocation_laws.step.Hidden.{Hidden}
use Rattle.vd_excuse_walk.specs.declared.equivocation_laws.step.Hidden.TheVariants.{Product, Bits, Word}

-- the first operand of an operation
abbrev pub operand_of : HostId → Action → Option Part
operand_of h (action.Apply o r x y) = Some (record { host = h; word = x })
operand_of h a = None

abbrev pub operand_in : Line → Option Part
operand_in (line.Act (act.Do h a)) = operand_of h a
operand_in l = None

-- whether an item is taken that two hosts share
abbrev pub is_taking : Action → Bool
is_taking (action.Triple p a b c) = true
is_taking (action.Bits p a b c) = true
is_taking (action.Pair p s x) = true
is_taking a = false

abbrev pub is_take : Line → Bool
is_take (line.Act (act.Do h a)) = is_taking a
is_take l = false

abbrev pub take_or_none : Option Line → Bool
take_or_none None = false
take_or_none (Some l) = is_take l

abbrev pub operand_or_none : Option Line → Option Part
operand_or_none None = None
operand_or_none (Some l) = operand_in l

abbrev pub is_take_at : List Line → ℕ → Bool
is_take_at lines i = take_or_none (slice_get lines i)

abbrev pub operand_at : List Line → ℕ → Option Part
operand_at lines i = operand_or_none (slice_get lines i)

abbrev pub factors : Option Part → Option Part → Option Operands
factors None y = None
factors (Some x) None = None
factors (Some x) (Some y) = Some (record { host = x.host; x = x.word; y = y.word })

-- the operands of a product, as two lines mask them
abbrev pub operands_at : List Line → ℕ → Option Operands
operands_at lines i = factors (operand_at lines i) (operand_at lines (i + 1))

abbrev pub of_two : {X : Type 0} → (X → X → Hidden) → Option X → Option X → Option Hidden
of_two f None y = None
of_two f (Some x) None = None
of_two f (Some x) (Some y) = Some (f x y)

-- what a product hides whose first host has just taken its item
abbrev pub products_at : List Line → Option Hidden
products_at lines = if is_take_at lines 2 then of_two Product (operands_at lines 0) (operands_at lines 3) else None

abbrev pub bits_at : List Line → Option Hidden
bits_at lines = if is_take_at lines 2 then of_two Bits (operands_at lines 0) (operands_at lines 3) else None

-- what a pair hides whose first host has just taken it
abbrev pub words_at : List Line → Option Hidden
words_at lines = if is_take_at lines 0 then of_two Word (operand_at lines 2) (operand_at lines 7) else None

abbrev pub hidden_before : Action → List Line → Option Hidden
hidden_before (action.Triple p a b c) behind = products_at behind
hidden_before (action.Bits p a b c) behind = bits_at behind
hidden_before (action.Pair p s x) behind = words_at behind
hidden_before a behind = None

-- what the items hide that are taken from this act on, where it is the first of the two that take one
abbrev pub hidden_by_act : Act → List Line → Option Hidden
hidden_by_act (act.Do h a) behind = hidden_before a behind
hidden_by_act (act.Msg a said b heard) behind = None
