-- The drawing of a choice of protocols: a function of a program, its labels and where its slots stand, and of the name and
-- the bytes of its source.
use Rattle.std.specs.Prelude.{ℕ, List, [], ◌∷◌, ◌++◌, length, codes}
use Rattle.vd_base.specs.declared.protocols.Proto.{Proto}
use Rattle.vd_core.specs.declared.normal.NormalForm.{NormalForm}
use Rattle.vd_constraints.specs.declared.labels.Labels.{Labels}
use Rattle.vd_draw_layout.specs.declared.draw_svg.classes.Area.TheVariants as area
use Rattle.vd_draw_layout.specs.declared.draw_svg.classes.Style.TheVariants as style
use Rattle.vd_draw_layout.specs.declared.draw_svg.marks.Mark.{Mark}
use Rattle.vd_draw_layout.specs.declared.draw_svg.marks.Mark.TheVariants as mark
use Rattle.vd_draw_layout.specs.Documents.{document_text}
use Rattle.vd_draw_rows.specs.declared.row.Arrow.{Arrow}
use Rattle.vd_draw_rows.specs.declared.row.Row.{Row}
use Rattle.vd_draw_rows.specs.Rows.{rows_of}
use Rattle.vd_draw_layout.specs.declared.layout.Layout.{Layout}
use Rattle.vd_draw_picture.specs.Arrows.{at}
use Rattle.vd_draw_picture.specs.Heads.{title_marks, column_marks, lanes_marks, width_of}
use Rattle.vd_draw_layout.specs.Layout.{layout_of, label_texts}
use Rattle.vd_draw_layout.specs.Numbers.{plus, times}
use Rattle.vd_draw_picture.specs.RowMarks.{height_inside}
use Rattle.vd_draw_picture.specs.AllRows.{no_run, rows_marks}
use Rattle.vd_draw_picture.specs.Legend.{kinds_of, meanings}

-- the rows begin at 86, and end here
abbrev pub bottom_of : List Row → ℕ
bottom_of rows = plus (height_inside 0 0 0 rows) 90

-- where the meanings of shapes begin, below those of so many kinds of arrows; and how high the drawing is
abbrev pub shapes_y : ℕ → ℕ → ℕ
shapes_y bottom kinds = plus (plus (times kinds 20) bottom) 50

abbrev pub height_of : ℕ → ℕ → ℕ
height_of bottom kinds = plus (shapes_y bottom kinds) 46

abbrev pub page : ℕ → ℕ → Mark
page width height = mark.Rectangle area.Page (at 0 0) width height

-- what stands above the rows, and the lanes
abbrev pub front_marks : List ℕ → NormalForm → Layout → ℕ → ℕ → List Mark
front_marks name p g bottom height =
    page (width_of g) height ∷ title_marks name g (length p.slots) ++ column_marks g ++ lanes_marks p.hosts bottom g.lanes

unfoldable pub legend_title : List ℕ
legend_title = codes "what arrows and shapes mean"

unfoldable pub arrows_title : List ℕ
arrows_title = codes "What goes between hosts"

abbrev pub legend_head : ℕ → List Mark
legend_head bottom = mark.Group (plus bottom 30) legend_title ∷ mark.Text style.Bold (at 20 0) arrows_title ∷ []

-- what these kinds of arrows mean; the last mark begins the group of what shapes mean
abbrev pub legend : ℕ → List Arrow → List Mark
legend bottom kinds = legend_head bottom ++ meanings 16 kinds ++ mark.End ∷ mark.Group (shapes_y bottom (length kinds)) [] ∷ []

-- all marks, where these kinds of arrows occur
abbrev pub picture_marks : List ℕ → NormalForm → List (List ℕ) → List Row → List Arrow → Layout → List Mark
picture_marks name p labels rows kinds g =
    front_marks name p g (bottom_of rows) (height_of (bottom_of rows) (length kinds))
    ++ rows_marks g p.hosts p.slots labels 86 0 0 no_run rows ++ legend (bottom_of rows) kinds

abbrev pub picture : List ℕ → NormalForm → List (List ℕ) → List Row → List Arrow → Layout → List ℕ
picture name p labels rows kinds g =
    document_text (width_of g) (height_of (bottom_of rows) (length kinds)) (picture_marks name p labels rows kinds g)

abbrev pub rows_picture : List ℕ → NormalForm → List (List ℕ) → List Row → List Arrow → List ℕ
rows_picture name p labels rows kinds = picture name p labels rows kinds (layout_of p.hosts labels rows)

-- all of the rows, with the kinds of arrows that occur in them
abbrev pub whole_picture : List ℕ → NormalForm → List (List ℕ) → List Row → List ℕ
whole_picture name p labels rows = rows_picture name p labels rows (kinds_of rows)

-- the bytes
abbrev pub drawn : List ℕ → List ℕ → NormalForm → Labels → List Proto → List ℕ
drawn name source p l list = whole_picture name p (label_texts p l) (rows_of source p list)
