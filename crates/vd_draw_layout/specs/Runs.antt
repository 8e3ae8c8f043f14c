-- The rows of the drawing: bindings without arrows that follow each other on one lane are drawn as one row, but for inputs and turns.
use Rattle.std.specs.Prelude.{ℕ, zero, suc, nat_eq, Bool, true, false, ◌&&◌, ◌==◌, not, if◌then◌else◌, Option, Some, None, List, [], ◌∷◌, ◌++◌, codes}
use Rattle.std.specs.List.{count_by}
use Rattle.vd_base.specs.declared.protocols.Proto.{Proto}
use Rattle.vd_base.specs.Holders.{same_protocol}
use Rattle.vd_draw_rows.specs.declared.row.Kind.{Kind}
use Rattle.vd_draw_rows.specs.declared.row.Kind.TheVariants as kind
use Rattle.vd_draw_rows.specs.declared.row.Line.{Line}
use Rattle.vd_draw_rows.specs.declared.row.Move.{Move}
use Rattle.vd_draw_rows.specs.declared.row.Row.{Row}
use Rattle.vd_draw_rows.specs.Moves.{is_seen}
use Rattle.vd_draw_layout.specs.declared.runs.Drawn.{Drawn}
use Rattle.vd_draw_layout.specs.Numbers.{plus, cost_of}
use Rattle.vd_draw_layout.specs.Words.{number_text}

-- ---- which rows go on: bindings without arrows, one after another, at one place

abbrev pub is_move_seen : Move → Bool
is_move_seen m = is_seen m.from m.to

abbrev pub arrows_of : Row → ℕ
arrows_of row = count_by is_move_seen row.moves

abbrev pub is_binding : Kind → Bool
is_binding kind.Binding = true
is_binding other = false

abbrev pub is_quiet : Row → Bool
is_quiet row = is_binding row.kind && arrows_of row == 0 && not row.alone

abbrev pub same_at : Option Proto → Option Proto → Bool
same_at (Some p) (Some q) = same_protocol p q
same_at p q = false

abbrev pub are_like : Row → Row → Bool
are_like row next = is_quiet row && is_quiet next && same_at row.at next.at && nat_eq row.depth next.depth

-- it is drawn with the row behind it
abbrev pub goes_on : Row → List Row → Bool
goes_on row [] = false
goes_on row (next ∷ rest) = are_like row next

-- ---- the rows of the drawing: the last of those that go on, with their number and what all of them cost

abbrev pub said_before : ℕ → List ℕ
said_before zero = []
said_before (suc n) = codes "+" ++ number_text (suc n) ++ codes ": "

abbrev pub drawn_text : ℕ → Row → List ℕ
drawn_text before row = said_before before ++ row.text

-- what the heading says of a row: the line of the source that says it, or else its text
abbrev pub heading_text : ℕ → Row → Option Line → List ℕ
heading_text before row None = drawn_text before row
heading_text before row (Some line) = number_text line.number ++ codes ": " ++ line.text

-- below so many rows of the drawing, where so many rows wait that cost so much
abbrev pub drawn_from : ℕ → ℕ → ℕ → List Row → List Drawn
drawn_from number before cost [] = []
drawn_from number before cost (row ∷ rest) =
    let all = plus cost (cost_of row) in
    if goes_on row rest then drawn_from number (plus before 1) all rest
    else record { number = number; cost = all; said = heading_text before row row.line } ∷ drawn_from (plus number 1) 0 0 rest

abbrev pub drawn_rows : List Row → List Drawn
drawn_rows rows = drawn_from 0 0 0 rows
