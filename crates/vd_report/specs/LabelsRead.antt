-- A label is printed as a source writes it.
use Rattle.std.specs.Prelude.{◌≡◌, ℕ, [], ◌∷◌, ◌++◌, decimal, codes}
use Rattle.vd_formula.specs.TruthTable.{both_of, either_of, name_of}
use Rattle.vd_formula.specs.declared.label.Label.{Label}
use Rattle.vd_core.specs.declared.normal.Slot.{Slot}
use Rattle.vd_report.specs.LabelLines.{label_line}

-- of the names A and B, both may read, and who answers for it is one of the two
abbrev pub worked_label : Label
worked_label = record { conf = both_of (name_of 0 2) (name_of 1 2); integ = either_of (name_of 0 2) (name_of 1 2) }

-- What must hold to read it stands first, and what must hold to answer for it behind the `;`, each with `&` for both and `|` for one of two.
abbrev pub LabelsAreWritten : Type 0
LabelsAreWritten = (number : ℕ) (slot : Slot)
    → label_line (codes "A" ∷ codes "B" ∷ []) number slot worked_label
    ≡ decimal number ++ codes " " ++ slot.name ++ codes " {" ++ codes "A & B" ++ codes " ; " ++ codes "A | B" ++ codes "}\n"
