-- The lines that tell the labels of slots, as bytes.
use Rattle.std.specs.Prelude.{ℕ, ◌+◌, if◌then◌else◌, List, [], ◌∷◌, ◌++◌, map, flat_map, decimal, codes}
use Rattle.vd_formula.specs.TruthTable.{TruthTable, at, has}
use Rattle.vd_formula.specs.MinimalSets.{minimal_sets_of}
use Rattle.vd_formula.specs.declared.label.Label.{Label}
use Rattle.vd_core.specs.declared.normal.Slot.{Slot}

-- each part behind the separator
abbrev pub all_behind : List ℕ → List (List ℕ) → List ℕ
all_behind separator parts = flat_map (λ part. separator ++ part) parts

-- parts with the separator between
abbrev pub joined : List ℕ → List (List ℕ) → List ℕ
joined separator [] = []
joined separator (part ∷ parts) = part ++ all_behind separator parts

-- those of the names, the first of which has this place, that are in the set
abbrev pub members : ℕ → List (List ℕ) → ℕ → List (List ℕ)
members place [] set = []
members place (name ∷ names) set = if has set place then name ∷ members (place + 1) names set else members (place + 1) names set

abbrev pub set_text : List (List ℕ) → ℕ → List ℕ
set_text names set = joined (codes " & ") (members 0 names set)

-- `none` where there is no set at all
abbrev pub sets_text : List (List ℕ) → List ℕ → List ℕ
sets_text names [] = codes "none"
sets_text names (set ∷ sets) = joined (codes " | ") (map (set_text names) (set ∷ sets))

-- `any` where the formula is true at the empty set, and so at every set
abbrev pub formula_text : List (List ℕ) → TruthTable → List ℕ
formula_text names formula = if at formula 0 then codes "any" else sets_text names (minimal_sets_of formula)

-- a slot's number, its name and its label
abbrev pub label_line : List (List ℕ) → ℕ → Slot → Label → List ℕ
label_line names number slot label =
    decimal number ++ codes " " ++ slot.name ++ codes " {" ++ formula_text names label.conf ++ codes " ; " ++ formula_text names label.integ ++ codes "}\n"

-- a line for each slot, the first of which has this number
abbrev pub label_lines : List (List ℕ) → ℕ → List Slot → List Label → List ℕ
label_lines names number [] labels = []
label_lines names number (slot ∷ slots) [] = []
label_lines names number (slot ∷ slots) (label ∷ labels) = label_line names number slot label ++ label_lines names (number + 1) slots labels
