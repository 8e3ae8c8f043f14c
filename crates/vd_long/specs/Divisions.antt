-- A division with its operands, as the walk reads it.
use Rattle.std.specs.Prelude.{ℕ, List}
use Rattle.vd_base.specs.declared.ids.SlotId.{SlotId}
use Rattle.vd_core.specs.declared.normal.Slot.{Slot}
use Rattle.vd_long.specs.declared.division.Division.{Division}
use Rattle.vd_long.specs.declared.division.Division.TheVariants.{Quotient, Remainder}
use Rattle.vd_long.specs.declared.steps.Place.{Place}
use Rattle.vd_rewrite.specs.Rewriting.{Made, moved}
use Rattle.vd_long.specs.Lengthened.{Parts, quotient_template, remainder_template, template_made}

abbrev pub as_parts : Division → Parts
as_parts (Quotient a b) = record { template = quotient_template; dividend = a; divisor = b }
as_parts (Remainder a b) = record { template = remainder_template; dividend = a; divisor = b }

-- what it becomes
abbrev pub long_of : List Slot → SlotId → Division → ℕ → Made → Made
long_of old x d block m = let p = as_parts d in template_made p.template old x (moved m.table p.dividend).0 (moved m.table p.divisor).0 block m

abbrev pub place_in : Made → ℕ → ℕ → SlotId → SlotId → Place
place_in m offset block a b = record { base = m.next; dividend = moved m.table a; divisor = moved m.table b; offset = offset; block = block }
