-- How an output is named: as the source writes what is told.
use Rattle.std.specs.Prelude.{ℕ, ◌+◌, ◌==◌, Bool, List, [], ◌∷◌, length, take, drop, codes, nat_eq, if◌then◌else◌}
use Rattle.std.specs.List.{starts_with}
use Rattle.vd_base.specs.declared.ids.SlotId.{SlotId}
use Rattle.vd_core.specs.declared.normal.Slot.{Slot}
use Rattle.vd_draw_rows.specs.Lines.{shown_line}
use Rattle.vd_draw_rows.specs.Texts.{slot_name}

-- ` to ` comes next
abbrev pub is_goal : List ℕ → Bool
is_goal text = starts_with nat_eq text (codes " to ")

-- how many bytes stand before that
abbrev pub value_len : List ℕ → ℕ
value_len [] = 0
value_len (b ∷ text) = if is_goal (b ∷ text) then 0 else value_len text + 1

-- what stands in a line between `output ` and ` to `
abbrev pub written_value : (line : List ℕ) → List ℕ
written_value line = let value = drop 7 line in take (value_len value) value

abbrev pub value_name : (written : List ℕ) → List Slot → SlotId → List ℕ
value_name written slots slot = if length written == 0 then slot_name slots slot else written

-- what the line of an output tells, without a comment and with single blanks for others; or the name of its slot where that is nothing
abbrev pub output_name : (source : List ℕ) → List Slot → SlotId → (offset : ℕ) → List ℕ
output_name source slots slot offset = value_name (written_value (shown_line source offset)) slots slot
