-- The title of a row, which viewers show as a tooltip: all that is known of it.
use Rattle.std.specs.Prelude.{ℕ, Option, Some, None, List, [], ◌++◌, slice_index_or, codes}
use Rattle.std.specs.List.{flat_map}
use Rattle.vd_base.specs.declared.ids.SlotId.{SlotId}
use Rattle.vd_base.specs.declared.protocols.Proto.{Proto}
use Rattle.vd_core.specs.declared.normal.Slot.{Slot}
use Rattle.vd_draw_rows.specs.declared.row.Move.{Move}
use Rattle.vd_draw_rows.specs.declared.row.Row.{Row}
use Rattle.vd_draw_rows.specs.Moves.{arrow_of}
use Rattle.vd_draw_rows.specs.Texts.{slot_name}
use Rattle.vd_draw_layout.specs.Numbers.{cost_of}
use Rattle.vd_draw_layout.specs.Words.{number_text, protocol_name, arrow_text}

abbrev pub protocol_behind : List (List ℕ) → List ℕ → Proto → List ℕ
protocol_behind hosts word p = word ++ protocol_name hosts p

-- what leaves a host, and what it costs
abbrev pub arrow_title : Move → List ℕ
arrow_title m = codes ": " ++ arrow_text (arrow_of m.from m.to) ++ codes ", " ++ number_text m.cost ++ codes "\n"

-- `NAME from P to Q: what leaves a host, cost`
abbrev pub move_title : List (List ℕ) → List Slot → Move → List ℕ
move_title hosts slots m = slot_name slots m.slot ++ protocol_behind hosts (codes " from ") m.from ++ protocol_behind hosts (codes " to ") m.to ++ arrow_title m

abbrev pub slot_title : List (List ℕ) → Option SlotId → List ℕ
slot_title labels None = []
slot_title labels (Some s) = codes "slot " ++ number_text s.0 ++ codes " " ++ slice_index_or labels s.0 [] ++ codes "\n"

abbrev pub at_title : List (List ℕ) → Option Proto → List ℕ
at_title hosts None = []
at_title hosts (Some p) = protocol_behind hosts (codes "at ") p ++ codes "\n"

abbrev pub cost_title : Row → List ℕ
cost_title row = codes "cost " ++ number_text (cost_of row) ++ codes ", done " ++ number_text row.weight ++ codes " times\n"

abbrev pub row_title : List (List ℕ) → List Slot → List (List ℕ) → Row → List ℕ
row_title hosts slots labels row =
    row.text ++ codes "\n" ++ slot_title labels row.slot ++ at_title hosts row.at ++ flat_map (move_title hosts slots) row.moves ++ cost_title row
