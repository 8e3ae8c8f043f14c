-- One part of a labelling changed.
use Rattle.std.specs.Prelude.{◌<◌, Bool, true, false, length, slice_set}
use Rattle.vd_formula.specs.declared.label.Label.{Label}
use Rattle.vd_formula.specs.TruthTable.{TruthTable}
use Rattle.vd_constraints.specs.declared.system.Place.{Place}
use Rattle.vd_constraints.specs.declared.system.Place.TheVariants.{Slot, Block}
use Rattle.vd_constraints.specs.declared.system.Part.{Part}
use Rattle.vd_constraints.specs.declared.labels.Labels.{Labels}
use Rattle.vd_constraints.specs.Satisfies.{label_at}

-- the labelling has a label at the place
abbrev pub IsWithin : Labels → Place → Type 0
IsWithin l (Slot x) = x.0 < length l.slots
IsWithin l (Block b) = b < length l.blocks

abbrev pub with_side : Label → Bool → TruthTable → Label
with_side label true f = record label { integ = f }
with_side label false f = record label { conf = f }

abbrev pub with_label_at : Labels → Place → Label → Labels
with_label_at l (Slot x) label = record l { slots = slice_set l.slots x.0 label }
with_label_at l (Block b) label = record l { blocks = slice_set l.blocks b label }

-- the labelling with this formula for the part
abbrev pub with_part : Labels → Part → TruthTable → Labels
with_part l part f = with_label_at l part.at (with_side (label_at l part.at) part.integ f)
