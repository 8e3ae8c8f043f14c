-- The labelling at which every part is true at every set.
use Rattle.std.specs.Prelude.{ℕ, length, replicate}
use Rattle.vd_formula.specs.TruthTable.{any_of}
use Rattle.vd_formula.specs.declared.label.Label.{Label}
use Rattle.vd_constraints.specs.declared.labels.Labels.{Labels}
use Rattle.vd_constraints.specs.Systems.{Constraints}

abbrev pub free_label : ℕ → Label
free_label names = record { conf = any_of names; integ = any_of names }

abbrev pub free : Constraints → Labels
free s = record { slots = replicate s.slots (free_label (length s.principals)); blocks = replicate s.blocks (free_label (length s.principals)) }
