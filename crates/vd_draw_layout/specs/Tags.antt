-- The text of marks: fixed tags, whole numbers, and escaped bytes.
use Rattle.std.specs.Prelude.{ℕ, List, [], ◌∷◌, ◌++◌, decimal, codes, if◌then◌else◌, ◌==◌}
use Rattle.std.specs.List.{flat_map}
use Rattle.vd_draw_layout.specs.declared.draw_svg.classes.Area.{Area}
use Rattle.vd_draw_layout.specs.declared.draw_svg.classes.Shape.{Shape}
use Rattle.vd_draw_layout.specs.declared.draw_svg.classes.Stroke.{Stroke}
use Rattle.vd_draw_layout.specs.declared.draw_svg.classes.Style.{Style}
use Rattle.vd_draw_layout.specs.declared.draw_svg.marks.Mark.{Mark}
use Rattle.vd_draw_layout.specs.declared.draw_svg.marks.Mark.TheVariants as mark
use Rattle.vd_draw_layout.specs.declared.draw_svg.marks.Place.{Place}
use Rattle.vd_draw_layout.specs.Classes.{style_class, stroke_class, area_class, area_corners, shape_class}

-- the three bytes that could begin something
abbrev pub escaped_byte : ℕ → List ℕ
escaped_byte b = if b == 38 then codes "&amp;" else (if b == 60 then codes "&lt;" else (if b == 62 then codes "&gt;" else b ∷ []))

abbrev pub escaped : List ℕ → List ℕ
escaped bytes = flat_map escaped_byte bytes

abbrev pub number_text : ℕ → List ℕ
number_text n = decimal n

-- ` name="number"`
unfoldable pub attribute : List ℕ → ℕ → List ℕ
attribute name number = name ++ codes "=\"" ++ number_text number ++ codes "\""

-- a tag that begins so, with its class
unfoldable pub classed : List ℕ → List ℕ → List ℕ
classed tag name = tag ++ name ++ codes "\""

unfoldable pub place_text : Place → List ℕ
place_text at = attribute (codes " x") at.x ++ attribute (codes " y") at.y

-- where a line begins, and where it ends
unfoldable pub begin_text : Place → List ℕ
begin_text from = attribute (codes " x1") from.x ++ attribute (codes " y1") from.y

unfoldable pub end_text : Place → List ℕ
end_text to = attribute (codes " x2") to.x ++ attribute (codes " y2") to.y

abbrev pub group_text : ℕ → List ℕ → List ℕ
group_text y title = codes "<g transform=\"translate(0," ++ number_text y ++ codes ")\"><title>" ++ escaped title ++ codes "</title>\n"

abbrev pub text_text : Style → Place → List ℕ → List ℕ
text_text style at text = classed (codes "<text class=\"") (style_class style) ++ place_text at ++ codes ">" ++ escaped text ++ codes "</text>\n"

abbrev pub line_text : Stroke → Place → Place → List ℕ
line_text stroke from to = classed (codes "<line class=\"") (stroke_class stroke) ++ begin_text from ++ end_text to ++ codes "/>\n"

abbrev pub rectangle_text : Area → Place → ℕ → ℕ → List ℕ
rectangle_text area at width height =
    classed (codes "<rect class=\"") (area_class area) ++ place_text at
    ++ attribute (codes " width") width ++ attribute (codes " height") height ++ area_corners area ++ codes "/>\n"

-- how a tag begins that uses a drawing
unfoldable pub use_tag : List ℕ
use_tag = codes "<use xlink:href=\""

abbrev pub shape_text : Shape → Place → List ℕ
shape_text shape at = classed use_tag (shape_class shape) ++ place_text at ++ codes "/>\n"

abbrev pub mark_text : Mark → List ℕ
mark_text (mark.Group y title) = group_text y title
mark_text mark.End = codes "</g>\n"
mark_text (mark.Text style at text) = text_text style at text
mark_text (mark.Line stroke from to) = line_text stroke from to
mark_text (mark.Rectangle area at width height) = rectangle_text area at width height
mark_text (mark.Shape shape at) = shape_text shape at
