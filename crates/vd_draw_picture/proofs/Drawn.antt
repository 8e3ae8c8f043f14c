-- What lines and shapes of a drawing mean.
use Rattle.std.proofs.Common.{refl}
use Rattle.vd_base.specs.declared.protocols.Proto.TheVariants.{Local, Rep, Commit, Add, Xor}
use Rattle.vd_draw_layout.specs.declared.draw_svg.classes.Stroke.TheVariants as stroke
use Rattle.vd_draw_rows.specs.declared.row.Arrow.TheVariants.{Clear, Checked, Opened, Revealed, Shared, Committed, Converted, Stays}
use Rattle.vd_draw_picture.specs.Drawn.{LinesEndWhereWordsGo, ShapesAreNamed}

pub lines_end : LinesEndWhereWordsGo
lines_end Clear y from to = ((stroke.Clear, refl), tt)
lines_end Checked y from to = ((stroke.Checked, refl), tt)
lines_end Opened y from to = ((stroke.Opened, refl), ((stroke.Middle, refl), tt))
lines_end Revealed y from to = ((stroke.Revealed, refl), tt)
lines_end Shared y from to = ((stroke.Shared, refl), tt)
lines_end Committed y from to = ((stroke.Committed, refl), tt)
lines_end Converted y from to = ((stroke.Converted, refl), tt)
lines_end Stays y from to = ((stroke.Stays, refl), tt)

pub shapes_named : ShapesAreNamed
shapes_named (Local h) some = absurd (some refl)
shapes_named (Rep set) some = absurd (some refl)
shapes_named (Commit p v) some = refl
shapes_named (Add a b) some = refl
shapes_named (Xor a b) some = refl
