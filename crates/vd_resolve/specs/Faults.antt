-- Faults: as the rules give them, and what they carry besides.
use Rattle.std.specs.Prelude.{ℕ}
use Rattle.vd_base.specs.declared.ids.Span.{Span}
use Rattle.vd_resolve.specs.declared.fault.Quantity.{Quantity}
use Rattle.vd_resolve.specs.declared.fault.NameFault.{NameFault}
use Rattle.vd_resolve.specs.declared.fault.NameFault.TheVariants as name_fault
use Rattle.vd_resolve.specs.declared.met.Met.{Met}

-- a fault as the rules give it: which rule is broken, and at which token; `Memory` is given by none
pub data Fault : Type 0 where
  Unknown : (at : Span) → Fault
  Twice : (at : Span) → Fault
  Recursive : (at : Span) → Fault
  Arity : (at : Span) → Fault
  Kind : (at : Span) → Fault
  Limit : (which : Quantity) (count : ℕ) → Fault
  Memory : Fault

-- a fault without what it carries
abbrev pub bare : NameFault → Fault
bare (name_fault.Unknown at) = Unknown at
bare (name_fault.Twice at first) = Twice at
bare (name_fault.Recursive at) = Recursive at
bare (name_fault.Arity at) = Arity at
bare (name_fault.Kind at met) = Kind at
bare (name_fault.Limit which count) = Limit which count
bare name_fault.Memory = Memory

-- what a fault carries: what meets where kinds do not fit, where a name that is twice was declared first, or nothing
pub data Cause : Type 0 where
  Kinds : (met : Met) → Cause
  First : (at : Span) → Cause
  Nothing : Cause

abbrev pub carried : NameFault → Cause
carried (name_fault.Twice at first) = First first
carried (name_fault.Kind at met) = Kinds met
carried other = Nothing
