-- Lines of the source.
use Rattle.std.specs.Prelude.{ℕ, ◌+◌, Bool, false, ◌||◌, ◌&&◌, ◌==◌, nat_lt, if◌then◌else◌, Option, Some, None, List, [], ◌∷◌, ◌++◌, replicate, codes, slice_get}
use Rattle.std.specs.Str.{bytes_eq}
use Rattle.vd_diag.specs.Lines.{line_behind, line_number}
use Rattle.vd_core.specs.declared.normal.Slot.{Slot}
use Rattle.vd_base.specs.declared.ids.SlotId.{SlotId}
use Rattle.vd_draw_rows.specs.declared.row.Line.{Line}

abbrev pub is_printable : ℕ → Bool
is_printable b = nat_lt 32 b && nat_lt b 127

abbrev pub begins_comment : ℕ → List ℕ → Bool
begins_comment b [] = false
begins_comment b (c ∷ rest) = b == 47 && c == 47

abbrev pub letter_behind : ℕ → ℕ → List ℕ
letter_behind blanks b = replicate blanks 32 ++ b ∷ []

-- a line without its comment, where so many blanks wait: those that no letter follows are left out
abbrev pub shown : ℕ → List ℕ → List ℕ
shown blanks [] = []
shown blanks (b ∷ rest) =
    if begins_comment b rest then []
    else (if is_printable b then letter_behind blanks b ++ shown 0 rest else shown (blanks + 1) rest)

-- the line of the source from an offset on, as it is shown
abbrev pub shown_line : List ℕ → ℕ → List ℕ
shown_line source offset = shown 0 (line_behind source offset)

-- the line says no more than a row that says this
abbrev pub is_said : List ℕ → List ℕ → Bool
is_said line said = bytes_eq line (said ++ codes ";") || bytes_eq line (codes "let " ++ said ++ codes ";")

-- the line of an offset, unless the row says it
abbrev pub line_if : Bool → ℕ → List ℕ → Option Line
line_if said number text = if said then None else Some (record { number = number; text = text })

abbrev pub line_at : List ℕ → ℕ → List ℕ → Option Line
line_at source offset said = line_if (is_said (shown_line source offset) said) (line_number source offset) (shown_line source offset)

-- the line at which a slot is made
abbrev pub line_of_slot : List ℕ → List ℕ → Option Slot → Option Line
line_of_slot source said None = None
line_of_slot source said (Some slot) = line_at source slot.offset said

abbrev pub slot_line : List ℕ → List Slot → SlotId → List ℕ → Option Line
slot_line source slots s said = line_of_slot source said (slice_get slots s.0)
