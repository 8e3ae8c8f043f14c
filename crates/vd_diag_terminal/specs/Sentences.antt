-- The sentence on a slot that has no candidate.
use Rattle.std.specs.Prelude.{ℕ, if◌then◌else◌, nat_lt, List, [], codes, decimal, slice_get}
use Rattle.std.specs.Option.{option_map_or}
use Rattle.vd_base.specs.declared.ids.SlotId.{SlotId}
use Rattle.vd_core.specs.declared.normal.NormalForm.{NormalForm}
use Rattle.vd_formula.specs.declared.label.Label.{Label}
use Rattle.vd_report.specs.LabelLines.{formula_text}
use Rattle.vd_diag.specs.Parts.{three}

-- a slot's number and name
abbrev pub slot_text : ℕ → List ℕ → List ℕ
slot_text number name = three (three (codes "slot ") (decimal number) (codes " `")) name (codes "`")

-- a label's two formulas
abbrev pub label_text : List (List ℕ) → Label → List ℕ
label_text names label = three (formula_text names label.conf) (codes " ; ") (formula_text names label.integ)

abbrev pub bare_sentence : List (List ℕ) → ℕ → List ℕ → Label → List ℕ
bare_sentence names number name label =
    three (three (slot_text number name) (codes " has the label {") (label_text names label)) (codes "}, and no protocol that can make it ") (codes "has the authority of this label")

-- of the slot with this number
abbrev pub slot_name : NormalForm → ℕ → List ℕ
slot_name p number = option_map_or (λ slot. slot.name) (slice_get p.slots number) []

abbrev pub slot_offset : NormalForm → ℕ → ℕ
slot_offset p number = option_map_or (λ slot. slot.offset) (slice_get p.slots number) 0

-- the later one of the places of two slots
abbrev pub later : ℕ → ℕ → ℕ
later a b = if nat_lt a b then b else a

abbrev pub later_slot : NormalForm → SlotId → SlotId → ℕ
later_slot p x y = later (slot_offset p x.0) (slot_offset p y.0)
