-- The names of classes.
use Rattle.std.specs.Prelude.{ℕ, List, [], codes}
use Rattle.vd_draw_layout.specs.declared.draw_svg.classes.Style.{Style}
use Rattle.vd_draw_layout.specs.declared.draw_svg.classes.Style.TheVariants as style
use Rattle.vd_draw_layout.specs.declared.draw_svg.classes.Stroke.{Stroke}
use Rattle.vd_draw_layout.specs.declared.draw_svg.classes.Stroke.TheVariants as stroke
use Rattle.vd_draw_layout.specs.declared.draw_svg.classes.Area.{Area}
use Rattle.vd_draw_layout.specs.declared.draw_svg.classes.Area.TheVariants as area
use Rattle.vd_draw_layout.specs.declared.draw_svg.classes.Shape.{Shape}
use Rattle.vd_draw_layout.specs.declared.draw_svg.classes.Shape.TheVariants as shape

abbrev pub style_class : Style → List ℕ
style_class style.Plain = codes "plain"
style_class style.Bold = codes "bold"
style_class style.Small = codes "small"
style_class style.Source = codes "source"
style_class style.Heading = codes "heading"
style_class style.Host = codes "host"
style_class style.Pair = codes "pair"
style_class style.Halo = codes "halo"
style_class style.Name = codes "name"

abbrev pub stroke_class : Stroke → List ℕ
stroke_class stroke.Host = codes "host-lane"
stroke_class stroke.Pair = codes "pair-lane"
stroke_class stroke.Copies = codes "copies"
stroke_class stroke.Otherwise = codes "otherwise"
stroke_class stroke.Clear = codes "clear"
stroke_class stroke.Checked = codes "checked"
stroke_class stroke.Opened = codes "opened"
stroke_class stroke.Middle = codes "middle"
stroke_class stroke.Revealed = codes "revealed"
stroke_class stroke.Shared = codes "shared"
stroke_class stroke.Committed = codes "committed"
stroke_class stroke.Converted = codes "converted"
stroke_class stroke.Stays = codes "stays"

abbrev pub area_class : Area → List ℕ
area_class area.Page = codes "page"
area_class area.Host = codes "host-name"
area_class area.Branch = codes "branch"
area_class area.Loop = codes "loop"
area_class area.Cost = codes "cost"
area_class area.Dear = codes "dear"

-- a loop has round corners
abbrev pub area_corners : Area → List ℕ
area_corners area.Loop = codes " rx=\"8\""
area_corners other = []

abbrev pub shape_class : Shape → List ℕ
shape_class shape.Host = codes "#at-host"
shape_class shape.Copy = codes "#at-copy"
shape_class shape.Sums = codes "#at-sums"
shape_class shape.Bits = codes "#at-bits"
shape_class shape.Committed = codes "#at-committed"
shape_class shape.Variable = codes "#at-variable"
shape_class shape.Printed = codes "#at-printed"
