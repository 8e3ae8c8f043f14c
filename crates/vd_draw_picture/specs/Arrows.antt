-- The arrows of a row: one for each word that is moved for it, in a line of its own.
use Rattle.std.specs.Prelude.{ℕ, ◌-◌, nat_lt, if◌then◌else◌, List, [], ◌∷◌, ◌++◌}
use Rattle.std.specs.List.{flat_map}
use Rattle.vd_base.specs.declared.protocols.Proto.{Proto}
use Rattle.vd_base.specs.declared.protocols.Proto.TheVariants.{Local, Rep, Add, Xor}
use Rattle.vd_base.specs.HostSets.{has_host}
use Rattle.vd_core.specs.declared.normal.Slot.{Slot}
use Rattle.vd_draw_layout.specs.declared.draw_svg.classes.Stroke.{Stroke}
use Rattle.vd_draw_layout.specs.declared.draw_svg.classes.Stroke.TheVariants as stroke
use Rattle.vd_draw_layout.specs.declared.draw_svg.classes.Style.TheVariants as style
use Rattle.vd_draw_layout.specs.declared.draw_svg.marks.Mark.{Mark}
use Rattle.vd_draw_layout.specs.declared.draw_svg.marks.Mark.TheVariants.{Text, Line}
use Rattle.vd_draw_layout.specs.declared.draw_svg.marks.Place.{Place}
use Rattle.vd_draw_rows.specs.declared.row.Arrow.{Arrow}
use Rattle.vd_draw_rows.specs.declared.row.Arrow.TheVariants as arrow
use Rattle.vd_draw_rows.specs.declared.row.Move.{Move}
use Rattle.vd_draw_rows.specs.Moves.{arrow_of, is_told, is_seen}
use Rattle.vd_draw_rows.specs.Texts.{slot_name}
use Rattle.vd_draw_layout.specs.declared.lanes.Lane.{Lane}
use Rattle.vd_draw_layout.specs.Lanes.{lane_x, hosts_x}
use Rattle.vd_draw_layout.specs.Numbers.{plus}
use Rattle.vd_draw_layout.specs.Words.{cut}

abbrev pub at : ℕ → ℕ → Place
at x y = record { x = x; y = y }

abbrev pub stroke_of : Arrow → Stroke
stroke_of arrow.Clear = stroke.Clear
stroke_of arrow.Checked = stroke.Checked
stroke_of arrow.Opened = stroke.Opened
stroke_of arrow.Revealed = stroke.Revealed
stroke_of arrow.Shared = stroke.Shared
stroke_of arrow.Committed = stroke.Committed
stroke_of arrow.Converted = stroke.Converted
stroke_of arrow.Stays = stroke.Stays

-- the head of an arrow ends before the lane to which it goes
abbrev pub head_x : ℕ → ℕ → ℕ
head_x from to = if nat_lt from to then to - 18 else plus to 18

-- the name stands half a gap from where the arrow begins
abbrev pub name_x : ℕ → ℕ → ℕ → ℕ
name_x half from to = if nat_lt from to then plus from half else from - half

-- one line; what is opened has a white middle
abbrev pub middle_of : Arrow → Place → Place → List Mark
middle_of arrow.Opened from to = Line stroke.Middle from to ∷ []
middle_of other from to = []

abbrev pub line_marks : Arrow → ℕ → ℕ → ℕ → List Mark
line_marks kind y from to = Line (stroke_of kind) (at from y) (at (head_x from to) y) ∷ middle_of kind (at from y) (at (head_x from to) y)

abbrev pub lines_to : Arrow → ℕ → List ℕ → ℕ → List Mark
lines_to kind y tos from = flat_map (line_marks kind y from) tos

abbrev pub all_lines : Arrow → ℕ → List ℕ → List ℕ → List Mark
all_lines kind y froms tos = flat_map (lines_to kind y tos) froms

-- the name of the word, on the first of the lines
abbrev pub name_marks : ℕ → ℕ → List ℕ → List ℕ → List ℕ → List Mark
name_marks half y name [] tos = []
name_marks half y name (from ∷ froms) [] = []
name_marks half y name (from ∷ froms) (to ∷ tos) =
    let place = at (name_x half from to) (plus y 3) in
    Text style.Halo place name ∷ Text style.Name place name ∷ []

abbrev pub xs_of_lane : List Lane → Proto → List ℕ
xs_of_lane lanes p = lane_x lanes p ∷ []

module _ (lanes : List Lane) (hosts : ℕ) where
  -- where an arrow begins: at each copy, where they are compared; where copies become shared words, at the later host
  abbrev pub from_copies : List ℕ → Proto → List ℕ
  from_copies copies (Add a b) = xs_of_lane lanes (Local b)
  from_copies copies (Xor a b) = xs_of_lane lanes (Local b)
  from_copies copies to = copies

  abbrev pub begins : Proto → Proto → List ℕ
  begins (Rep set) to = from_copies (hosts_x lanes (has_host set) hosts) to
  begins from to = xs_of_lane lanes from

  -- where it ends: at each host that is told the word, where it goes to copies
  abbrev pub ends : Proto → Proto → List ℕ
  ends from (Rep set) = hosts_x lanes (λ h. is_told h from (Rep set)) hosts
  ends from to = xs_of_lane lanes to

  abbrev pub move_marks : ℕ → List Slot → ℕ → Move → List Mark
  move_marks half slots y m =
      all_lines (arrow_of m.from m.to) y (begins m.from m.to) (ends m.from m.to)
      ++ name_marks half y (cut 10 (slot_name slots m.slot)) (begins m.from m.to) (ends m.from m.to)

  -- one below the other
  abbrev pub arrow_marks : ℕ → List Slot → ℕ → List Move → List Mark
  arrow_marks half slots y [] = []
  arrow_marks half slots y (m ∷ ms) =
      if is_seen m.from m.to then move_marks half slots y m ++ arrow_marks half slots (plus y 15) ms
      else arrow_marks half slots y ms
