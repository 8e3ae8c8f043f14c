-- What stands above the rows, and the lanes behind them.
use Rattle.std.specs.Prelude.{ℕ, ◌-◌, ◌/◌, max, nat_lt, ◌==◌, if◌then◌else◌, List, [], ◌∷◌, ◌++◌, map, codes}
use Rattle.std.specs.List.{flat_map}
use Rattle.vd_base.specs.declared.protocols.Proto.{Proto}
use Rattle.vd_base.specs.declared.protocols.Proto.TheVariants.{Local}
use Rattle.vd_draw_layout.specs.declared.draw_svg.classes.Area.TheVariants as area
use Rattle.vd_draw_layout.specs.declared.draw_svg.classes.Stroke.{Stroke}
use Rattle.vd_draw_layout.specs.declared.draw_svg.classes.Stroke.TheVariants as stroke
use Rattle.vd_draw_layout.specs.declared.draw_svg.classes.Style.{Style}
use Rattle.vd_draw_layout.specs.declared.draw_svg.classes.Style.TheVariants as style
use Rattle.vd_draw_layout.specs.declared.draw_svg.marks.Mark.{Mark}
use Rattle.vd_draw_layout.specs.declared.draw_svg.marks.Mark.TheVariants as mark
use Rattle.vd_draw_layout.specs.declared.lanes.Lane.{Lane}
use Rattle.vd_draw_layout.specs.declared.layout.Layout.{Layout}
use Rattle.vd_draw_layout.specs.declared.runs.Drawn.{Drawn}
use Rattle.vd_draw_picture.specs.Arrows.{at}
use Rattle.vd_draw_layout.specs.Dearest.{dear_place}
use Rattle.vd_draw_layout.specs.Layout.{name_length}
use Rattle.vd_draw_layout.specs.Numbers.{plus, times}
use Rattle.vd_draw_layout.specs.Words.{cut, number_text, printable, protocol_name, protocol_kind}

abbrev pub text : Style → ℕ → ℕ → List ℕ → Mark
text s x y said = mark.Text s (at x y) said

-- ---- the names of the lanes

abbrev pub half_name : ℕ → ℕ
half_name letters = plus (times letters 4) 5

-- a host's name stands in a box
abbrev pub host_marks : ℕ → ℕ → List ℕ → List Mark
host_marks x half name = mark.Rectangle area.Host (at (x - half) 54) (plus half half) 19 ∷ text style.Host x 68 name ∷ []

-- a small text that can be read over a lane
abbrev pub over : ℕ → ℕ → List ℕ → List Mark
over x y said = text style.Halo x y said ∷ text style.Pair x y said ∷ []

abbrev pub pair_marks : ℕ → List ℕ → List ℕ → List Mark
pair_marks x name kind = over x 60 name ++ over x 72 kind

abbrev pub head_of : List (List ℕ) → Proto → ℕ → List Mark
head_of hosts (Local h) x = host_marks x (half_name (name_length hosts (Local h))) (cut 30 (protocol_name hosts (Local h)))
head_of hosts p x = pair_marks x (cut 30 (protocol_name hosts p)) (protocol_kind p)

abbrev pub head_marks : List (List ℕ) → Lane → List Mark
head_marks hosts lane = head_of hosts lane.at lane.x

-- ---- the lanes

abbrev pub lane_stroke : Proto → Stroke
lane_stroke (Local h) = stroke.Host
lane_stroke p = stroke.Pair

abbrev pub lane_mark : ℕ → Lane → Mark
lane_mark bottom lane = mark.Line (lane_stroke lane.at) (at lane.x 74) (at lane.x bottom)

-- ---- the heading, and the heads of the columns

-- of a row with this place among the dearest: `(1) 12: min(a, b) 41 %`
abbrev pub before_place : ℕ → List ℕ
before_place place = if nat_lt place 2 then codes "; dearest: (" else codes ", ("

abbrev pub dear_said : ℕ → ℕ → Drawn → List ℕ
dear_said total place row =
    before_place place ++ number_text place ++ codes ") " ++ cut 28 row.said ++ codes " "
    ++ number_text (times row.cost 100 / max total 1) ++ codes " %"

unfoldable pub said_if_dear : Layout → ℕ → Drawn → List ℕ
said_if_dear g place row = if dear_place g row.number row.cost == place then dear_said g.total place row else []

abbrev pub said_at : Layout → ℕ → List ℕ
said_at g place = flat_map (said_if_dear g place) g.drawn

-- the cost, how many slots there are, and the dearest rows
abbrev pub summary : Layout → ℕ → List ℕ
summary g slots =
    codes "cost " ++ number_text g.total ++ codes ", " ++ number_text slots ++ codes " slots" ++ said_at g 1 ++ said_at g 2 ++ said_at g 3

abbrev pub width_of : Layout → ℕ
width_of g = max (plus g.cost_x 298) 790

-- the letters that a line above the drawing may have
abbrev pub heading_room : Layout → ℕ
heading_room g = max ((width_of g - 40) / 7) 8

abbrev pub title_marks : List ℕ → Layout → ℕ → List Mark
title_marks name g slots =
    text style.Heading 20 24 (cut 60 (printable name)) ∷ text style.Plain 20 42 (cut (heading_room g) (summary g slots)) ∷ []

abbrev pub column : ℕ → List ℕ → Mark
column x word = text style.Small x 70 word

abbrev pub slot_columns : Layout → List Mark
slot_columns g = column 20 (codes "slot") ∷ column g.label_x (codes "label") ∷ []

abbrev pub choice_columns : Layout → List Mark
choice_columns g = column g.protocol_x (codes "protocol") ∷ column g.cost_x (codes "cost") ∷ []

abbrev pub column_marks : Layout → List Mark
column_marks g = slot_columns g ++ choice_columns g

abbrev pub lanes_marks : List (List ℕ) → ℕ → List Lane → List Mark
lanes_marks hosts bottom lanes = map (lane_mark bottom) lanes ++ flat_map (head_marks hosts) lanes
