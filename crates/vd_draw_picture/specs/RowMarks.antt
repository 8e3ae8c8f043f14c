-- The marks of a row, from its upper edge down.
use Rattle.std.specs.Prelude.{ℕ, zero, suc, ◌+◌, ◌-◌, ◌*◌, ◌/◌, ◌%◌, min, max, nat_lt, Bool, true, false, ◌&&◌, ◌==◌, not, if◌then◌else◌, Option, Some, None, List, [], ◌∷◌, ◌++◌, map, length, slice_index_or, codes}
use Rattle.vd_base.specs.declared.ids.SlotId.{SlotId}
use Rattle.vd_base.specs.declared.protocols.Proto.{Proto}
use Rattle.vd_base.specs.declared.protocols.Proto.TheVariants.{Local, Rep, Commit, Add, Xor}
use Rattle.vd_base.specs.HostSets.{has_host}
use Rattle.vd_core.specs.declared.normal.Slot.{Slot}
use Rattle.vd_draw_layout.specs.declared.draw_svg.classes.Area.{Area}
use Rattle.vd_draw_layout.specs.declared.draw_svg.classes.Area.TheVariants as area
use Rattle.vd_draw_layout.specs.declared.draw_svg.classes.Shape.{Shape}
use Rattle.vd_draw_layout.specs.declared.draw_svg.classes.Shape.TheVariants as shape
use Rattle.vd_draw_layout.specs.declared.draw_svg.classes.Stroke.TheVariants as stroke
use Rattle.vd_draw_layout.specs.declared.draw_svg.classes.Style.{Style}
use Rattle.vd_draw_layout.specs.declared.draw_svg.classes.Style.TheVariants as style
use Rattle.vd_draw_layout.specs.declared.draw_svg.marks.Mark.{Mark}
use Rattle.vd_draw_layout.specs.declared.draw_svg.marks.Mark.TheVariants as mark
use Rattle.vd_draw_layout.specs.declared.draw_svg.marks.Place.{Place}
use Rattle.vd_draw_rows.specs.declared.row.Kind.{Kind}
use Rattle.vd_draw_rows.specs.declared.row.Kind.TheVariants as kind
use Rattle.vd_draw_rows.specs.declared.row.Line.{Line}
use Rattle.vd_draw_rows.specs.declared.row.Row.{Row}
use Rattle.vd_draw_layout.specs.declared.lanes.Lane.{Lane}
use Rattle.vd_draw_layout.specs.declared.layout.Layout.{Layout}
use Rattle.vd_draw_picture.specs.Arrows.{at, xs_of_lane, arrow_marks}
use Rattle.vd_draw_layout.specs.Dearest.{dear_place}
use Rattle.vd_draw_layout.specs.Lanes.{hosts_x}
use Rattle.vd_draw_layout.specs.Runs.{arrows_of, drawn_text, goes_on}
use Rattle.vd_draw_layout.specs.Layout.{indent}
use Rattle.vd_draw_layout.specs.Numbers.{plus, times}
use Rattle.vd_draw_layout.specs.Words.{cut, number_text, protocol_name}

-- ---- how high a row is

abbrev pub height_of : Row → ℕ
height_of row = max (plus (times (arrows_of row) 15) 8) 22

-- the names of the lanes stand above each fortieth row of the drawing but the first
abbrev pub has_names : ℕ → Bool
has_names number = number % 40 == 0 && nat_lt 0 number

abbrev pub names_height : ℕ → ℕ
names_height number = if has_names number then 34 else 0

-- a line of the source stands above a row, unless the last one that was shown was the same
abbrev pub is_other_line : ℕ → Option Line → Bool
is_other_line last None = false
is_other_line last (Some line) = not (line.number == last)

abbrev pub line_height : ℕ → Row → ℕ
line_height last row = if is_other_line last row.line then 17 else 0

-- the line that was shown last, behind a row that is drawn
abbrev pub line_behind : ℕ → Option Line → ℕ
line_behind last None = last
line_behind last (Some line) = line.number

abbrev pub next_last : ℕ → Row → List Row → ℕ
next_last last row rest = if goes_on row rest then last else line_behind last row.line

-- how many rows of the drawing stand above what is behind a row
abbrev pub next_number : ℕ → Row → List Row → ℕ
next_number number row rest = if goes_on row rest then number else plus number 1

-- how high what stands above a row is, below so many rows of the drawing
abbrev pub height_above : ℕ → ℕ → Row → ℕ
height_above number last row = plus (names_height number) (line_height last row)

-- how deep the row behind a row stands
abbrev pub depth_behind : List Row → ℕ
depth_behind [] = 1
depth_behind (row ∷ rest) = row.depth

-- six points for each block that ends below a row, of those in a block that begins at this depth
abbrev pub room_below : ℕ → Row → List Row → ℕ
room_below depth row rest = times (row.depth - max (depth_behind rest) depth) 6

-- how high a row is, with what stands above it and the ends of blocks below it
abbrev pub whole_height : ℕ → ℕ → ℕ → Row → List Row → ℕ
whole_height depth number last row rest =
    if goes_on row rest then 0 else plus (plus (height_above number last row) (height_of row)) (room_below depth row rest)

-- how high the rows are that follow, as long as they stand deeper
abbrev pub height_from : ℕ → ℕ → ℕ → ℕ → List Row → ℕ
height_from depth height number last [] = height
height_from depth height number last (row ∷ rest) =
    if nat_lt depth row.depth
    then height_from depth (plus height (whole_height depth number last row rest)) (next_number number row rest) (next_last last row rest) rest
    else height

abbrev pub height_inside : ℕ → ℕ → ℕ → List Row → ℕ
height_inside depth number last rows = height_from depth 0 number last rows

-- ---- the text, the label and the protocol

abbrev pub is_block : Kind → Bool
is_block kind.Branch = true
is_block kind.Otherwise = true
is_block kind.Loop = true
is_block other = false

abbrev pub row_x : Row → ℕ
row_x row = 14 * indent row + 20

abbrev pub text_style : Row → Style
text_style row = if is_block row.kind then style.Bold else style.Plain

abbrev pub text_x : Row → ℕ
text_x row = if is_block row.kind then row_x row else row_x row + 28

-- the letters that are left for the text
abbrev pub room : Layout → Row → ℕ
room g row = max (g.text_letters - (2 * indent row + 4)) 3

abbrev pub text_mark : Layout → ℕ → Row → Mark
text_mark g before row = mark.Text (text_style row) (at (text_x row) 15) (cut (room g row) (drawn_text before row))

abbrev pub small : ℕ → List ℕ → Mark
small x text = mark.Text style.Small (at x 15) text

abbrev pub slot_marks : Layout → List (List ℕ) → List (List ℕ) → Row → Option SlotId → Option Proto → List Mark
slot_marks g hosts labels row (Some s) (Some p) =
    small (row_x row) (number_text s.0) ∷ small g.label_x (cut 34 (slice_index_or labels s.0 [])) ∷ small g.protocol_x (cut 30 (protocol_name hosts p)) ∷ []
slot_marks g hosts labels row s p = []

abbrev pub word_marks : Layout → List (List ℕ) → List (List ℕ) → ℕ → Row → List Mark
word_marks g hosts labels before row = text_mark g before row ∷ slot_marks g hosts labels row row.slot row.at

-- ---- what stands on the lanes

abbrev pub on_lane : ℕ → Place
on_lane x = at x 11

abbrev pub shape_at : Proto → Shape
shape_at (Local h) = shape.Host
shape_at (Rep set) = shape.Copy
shape_at (Commit p v) = shape.Committed
shape_at (Add a b) = shape.Sums
shape_at (Xor a b) = shape.Bits

abbrev pub shape_of : Kind → Proto → Shape
shape_of kind.Variable p = shape.Variable
shape_of kind.Store p = shape.Variable
shape_of kind.Output p = shape.Printed
shape_of other p = shape_at p

-- each copy is joined to the next
abbrev pub join_mark : ℕ → ℕ → Mark
join_mark last x = mark.Line stroke.Copies (on_lane last) (on_lane x)

abbrev pub joins_from : ℕ → List ℕ → List Mark
joins_from last [] = []
joins_from last (x ∷ xs) = join_mark last x ∷ joins_from x xs

abbrev pub joins : List ℕ → List Mark
joins [] = []
joins (x ∷ xs) = joins_from x xs

abbrev pub shape_mark : Shape → ℕ → Mark
shape_mark s x = mark.Shape s (on_lane x)

abbrev pub places_of : List Lane → ℕ → Proto → List ℕ
places_of lanes hosts (Rep set) = hosts_x lanes (has_host set) hosts
places_of lanes hosts p = xs_of_lane lanes p

-- what joins copies, below the arrows; and the shapes, above them
abbrev pub join_marks : List Lane → ℕ → Option Proto → List Mark
join_marks lanes hosts None = []
join_marks lanes hosts (Some p) = joins (places_of lanes hosts p)

abbrev pub at_marks : List Lane → ℕ → Kind → Option Proto → List Mark
at_marks lanes hosts k None = []
at_marks lanes hosts k (Some p) = map (shape_mark (shape_of k p)) (places_of lanes hosts p)

-- all that stands on the lanes
abbrev pub lane_marks : Layout → List (List ℕ) → List Slot → Row → List Mark
lane_marks g hosts slots row =
    join_marks g.lanes (length hosts) row.at
    ++ arrow_marks g.lanes (length hosts) g.half slots 11 row.moves
    ++ at_marks g.lanes (length hosts) row.kind row.at

-- ---- the cost

abbrev pub bar_width : Layout → ℕ → ℕ
bar_width g cost = max (min (times cost 90 / g.greatest) 90) 1

-- `5520 = 24 x 230`
abbrev pub cost_note : ℕ → ℕ → List ℕ
cost_note cost weight =
    if nat_lt 1 weight then number_text cost ++ codes " = " ++ number_text weight ++ codes " x " ++ number_text (cost / weight)
    else number_text cost

abbrev pub bar_area : Bool → Area
bar_area dear = if dear then area.Dear else area.Cost

abbrev pub note_style : Bool → Style
note_style dear = if dear then style.Bold else style.Plain

-- behind it the place among the dearest, of a row that has one
abbrev pub said_of_cost : ℕ → ℕ → ℕ → List ℕ
said_of_cost cost weight zero = cost_note cost weight
said_of_cost cost weight (suc n) = cost_note cost weight ++ codes " (" ++ number_text (suc n) ++ codes ")"

abbrev pub bar_marks : Layout → ℕ → ℕ → ℕ → List Mark
bar_marks g place cost weight =
    mark.Rectangle (bar_area (nat_lt 0 place)) (at g.cost_x 6) (bar_width g cost) 10
    ∷ mark.Text (note_style (nat_lt 0 place)) (at (plus (plus g.cost_x (bar_width g cost)) 6) 15) (said_of_cost cost weight place)
    ∷ []

-- of the row of the drawing with this number
abbrev pub cost_marks : Layout → ℕ → ℕ → ℕ → List Mark
cost_marks g number cost weight = if nat_lt 0 cost then bar_marks g (dear_place g number cost) cost weight else []

-- ---- the frame of a block

abbrev pub frame_left : Row → ℕ
frame_left row = row_x row - 8

abbrev pub frame_right : Layout → Row → ℕ
frame_right g row = g.cost_x - (4 * indent row + 14)

abbrev pub frame_mark : Layout → Area → ℕ → Row → Mark
frame_mark g a inside row =
    mark.Rectangle a (at (frame_left row) 2) (frame_right g row - frame_left row) (plus (height_of row) inside - 4)

abbrev pub parting_mark : Layout → Row → Mark
parting_mark g row = mark.Line stroke.Otherwise (at (frame_left row - 14) 2) (at (frame_right g row) 2)

-- where the rows in the block are so high
abbrev pub frame_marks : Layout → ℕ → Row → Kind → List Mark
frame_marks g inside row kind.Branch = frame_mark g area.Branch inside row ∷ []
frame_marks g inside row kind.Loop = frame_mark g area.Loop inside row ∷ []
frame_marks g inside row kind.Otherwise = parting_mark g row ∷ []
frame_marks g inside row other = []

-- ---- all of them

-- of the row of the drawing with this number, where so many rows before it are drawn with it, and all of them cost so much
abbrev pub row_marks : Layout → List (List ℕ) → List Slot → List (List ℕ) → ℕ → ℕ → ℕ → ℕ → Row → List Mark
row_marks g hosts slots labels number inside before cost row =
    frame_marks g inside row row.kind ++ word_marks g hosts labels before row ++ lane_marks g hosts slots row
    ++ cost_marks g number cost row.weight
