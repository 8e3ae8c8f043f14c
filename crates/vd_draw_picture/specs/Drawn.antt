-- What lines and shapes of a drawing mean.
use Rattle.std.specs.Prelude.{◌≡◌, ◌≢◌, ℕ, List, [], ◌++◌, codes}
use Rattle.std.specs.List.{AllByRecursion}
use Rattle.vd_base.specs.declared.protocols.Proto.{Proto}
use Rattle.vd_draw_layout.specs.Classes.{shape_class}
use Rattle.vd_draw_layout.specs.Words.{protocol_kind}
use Rattle.vd_draw_layout.specs.declared.draw_svg.classes.Stroke.{Stroke}
use Rattle.vd_draw_layout.specs.declared.draw_svg.marks.Mark.{Mark}
use Rattle.vd_draw_layout.specs.declared.draw_svg.marks.Mark.TheVariants.{Line}
use Rattle.vd_draw_rows.specs.declared.row.Arrow.{Arrow}
use Rattle.vd_draw_picture.specs.Arrows.{at, head_x, line_marks}
use Rattle.vd_draw_picture.specs.RowMarks.{shape_at}

-- a line at this height that begins at one place, and ends where the head of an arrow to another one stands
abbrev pub IsLineTo : (y from to : ℕ) → Mark → Type 0
IsLineTo y from to mark = (s : Stroke) × (mark ≡ Line s (at from y) (at (head_x from to) y))

-- Each line of an arrow goes from where the word comes from to where it goes.
abbrev pub LinesEndWhereWordsGo : Type 0
LinesEndWhereWordsGo = (kind : Arrow) (y from to : ℕ) → AllByRecursion (IsLineTo y from to) (line_marks kind y from to)

-- The shape of a word has the name of the words that stand above its lane: `committed`, `sums` or `bits`.
abbrev pub ShapesAreNamed : Type 0
ShapesAreNamed = (p : Proto) → protocol_kind p ≢ [] → shape_class (shape_at p) ≡ codes "#at-" ++ protocol_kind p
