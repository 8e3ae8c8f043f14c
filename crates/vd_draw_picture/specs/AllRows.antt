-- The marks of all rows, one after another from above.
use Rattle.std.specs.Prelude.{ℕ, ◌-◌, ◌/◌, max, Bool, if◌then◌else◌, Option, Some, None, List, [], ◌∷◌, ◌++◌, codes}
use Rattle.std.specs.List.{flat_map}
use Rattle.vd_core.specs.declared.normal.Slot.{Slot}
use Rattle.vd_draw_layout.specs.declared.draw_svg.classes.Style.TheVariants as style
use Rattle.vd_draw_layout.specs.declared.draw_svg.marks.Mark.{Mark}
use Rattle.vd_draw_layout.specs.declared.draw_svg.marks.Mark.TheVariants as mark
use Rattle.vd_draw_rows.specs.declared.row.Line.{Line}
use Rattle.vd_draw_rows.specs.declared.row.Row.{Row}
use Rattle.vd_draw_rows.specs.Wire.{is_seen_on_the_way}
use Rattle.vd_draw_layout.specs.declared.lanes.Lane.{Lane}
use Rattle.vd_draw_layout.specs.declared.layout.Layout.{Layout}
use Rattle.vd_draw_picture.specs.declared.all_rows.Run.{Run}
use Rattle.vd_draw_picture.specs.Arrows.{at}
use Rattle.vd_draw_picture.specs.Heads.{head_marks}
use Rattle.vd_draw_layout.specs.Numbers.{plus, cost_of}
use Rattle.vd_draw_picture.specs.RowMarks.{has_names, height_above, height_inside, is_other_line, line_behind, names_height, next_last, next_number, row_marks, row_x, small, whole_height}
use Rattle.vd_draw_layout.specs.Runs.{goes_on}
use Rattle.vd_draw_layout.specs.Titles.{row_title}
use Rattle.vd_draw_layout.specs.Words.{cut, number_text}

-- ---- the line of the source above a row

abbrev pub line_said : Line → List ℕ
line_said line = number_text line.number ++ codes ": " ++ line.text

-- the letters that it may have, up to the lanes
abbrev pub line_room : Layout → ℕ → ℕ
line_room g x = max ((g.lanes_x - x) / 7) 8

abbrev pub line_marks : Layout → ℕ → ℕ → Line → List Mark
line_marks g y x line = mark.Group y [] ∷ mark.Text style.Source (at x 13) (cut (line_room g x) (line_said line)) ∷ mark.End ∷ []

abbrev pub lines_if : Layout → Bool → ℕ → ℕ → Option Line → List Mark
lines_if g other y x None = []
lines_if g other y x (Some line) = if other then line_marks g y x line else []

abbrev pub line_above : Layout → ℕ → ℕ → Row → List Mark
line_above g y last row = lines_if g (is_other_line last row.line) y (row_x row) row.line

-- ---- the names of the lanes, which stand above each fortieth row again

abbrev pub names_marks : List (List ℕ) → ℕ → List Lane → List Mark
names_marks hosts y lanes = mark.Group (y - 46) [] ∷ flat_map (head_marks hosts) lanes ++ mark.End ∷ []

abbrev pub names_above : Layout → List (List ℕ) → ℕ → ℕ → List Mark
names_above g hosts y number = if has_names number then names_marks hosts y g.lanes else []

-- what stands above a row of the drawing
abbrev pub above_marks : Layout → List (List ℕ) → ℕ → ℕ → ℕ → Row → List Mark
above_marks g hosts y number last row = names_above g hosts y number ++ line_above g (plus y (names_height number)) last row

-- ---- a branch in which hosts send: who is on the way sees which way it goes

unfoldable pub way_said : List ℕ
way_said = codes "seen on the way"

abbrev pub way_marks : Layout → Row → List Row → List Mark
way_marks g row rest = if is_seen_on_the_way row rest then small g.label_x way_said ∷ [] else []

-- ---- rows that are drawn as one: how many, what they cost, and their titles

abbrev pub no_run : Run
no_run = record { count = 0; cost = 0; title = [] }

module _ (g : Layout) (hosts : List (List ℕ)) (slots : List Slot) (labels : List (List ℕ)) where
  abbrev pub with_row : Run → Row → Run
  with_row run row = record { count = plus run.count 1; cost = plus run.cost (cost_of row); title = run.title ++ row_title hosts slots labels row }

  -- a row with those before it that are drawn with it, below so many rows of the drawing
  abbrev pub group_marks : ℕ → ℕ → ℕ → Run → Row → List Row → List Mark
  group_marks y number last run row rest =
      let inside = height_inside row.depth (plus number 1) (line_behind last row.line) rest in
      mark.Group (plus y (height_above number last row)) run.title
      ∷ row_marks g hosts slots labels number inside (run.count - 1) run.cost row
      ++ way_marks g row rest ++ mark.End ∷ []

  abbrev pub run_marks : ℕ → ℕ → ℕ → Run → Row → List Row → List Mark
  run_marks y number last run row rest = above_marks g hosts y number last row ++ group_marks y number last run row rest

  abbrev pub step_marks : ℕ → ℕ → ℕ → Run → Row → List Row → List Mark
  step_marks y number last run row rest = if goes_on row rest then [] else run_marks y number last run row rest

  abbrev pub next_run : Run → Row → List Row → Run
  next_run run row rest = if goes_on row rest then run else no_run

  -- from y down, below so many rows of the drawing and behind the line that was shown last, where a run waits
  abbrev pub rows_marks : ℕ → ℕ → ℕ → Run → List Row → List Mark
  rows_marks y number last run [] = []
  rows_marks y number last run (row ∷ rest) =
      step_marks y number last (with_row run row) row rest
      ++ rows_marks (plus y (whole_height 0 number last row rest)) (next_number number row rest) (next_last last row rest)
      (next_run (with_row run row) row rest) rest
