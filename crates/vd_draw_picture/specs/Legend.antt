-- What arrows mean, at the foot: the kinds that occur.
use Rattle.std.specs.Prelude.{ℕ, Bool, ◌&&◌, ◌==◌, if◌then◌else◌, List, [], ◌∷◌, ◌++◌, codes}
use Rattle.std.specs.List.{list_any}
use Rattle.vd_draw_layout.specs.declared.draw_svg.classes.Style.TheVariants as style
use Rattle.vd_draw_layout.specs.declared.draw_svg.marks.Mark.{Mark}
use Rattle.vd_draw_layout.specs.declared.draw_svg.marks.Mark.TheVariants as mark
use Rattle.vd_draw_rows.specs.declared.row.Arrow.{Arrow}
use Rattle.vd_draw_rows.specs.declared.row.Arrow.TheVariants.{Clear, Checked, Opened, Revealed, Shared, Committed, Converted, Stays}
use Rattle.vd_draw_rows.specs.declared.row.Move.{Move}
use Rattle.vd_draw_rows.specs.declared.row.Row.{Row}
use Rattle.vd_draw_rows.specs.Moves.{arrow_of, is_seen}
use Rattle.vd_draw_layout.specs.Numbers.{plus}
use Rattle.vd_draw_picture.specs.Arrows.{at, line_marks}

-- the place of a kind in the legend
abbrev pub order : Arrow → ℕ
order Clear = 0
order Checked = 1
order Opened = 2
order Revealed = 3
order Shared = 4
order Committed = 5
order Converted = 6
order Stays = 7

abbrev pub meaning : Arrow → List ℕ
meaning Clear = codes "in clear: the other host reads the word"
meaning Checked = codes "in clear from each copy, and compared"
meaning Opened = codes "opened: the parts are put together, and the word is read"
meaning Revealed = codes "revealed: a committed word, checked by its digest"
meaning Shared = codes "shared: a random word goes out"
meaning Committed = codes "committed: a digest goes out"
meaning Converted = codes "converted between sums and bits"
meaning Stays = codes "there already: nothing goes out"

-- ---- which kinds occur

abbrev pub is_of_kind : Arrow → Move → Bool
is_of_kind k m = is_seen m.from m.to && order (arrow_of m.from m.to) == order k

abbrev pub has_kind : Arrow → Row → Bool
has_kind k row = list_any (is_of_kind k) row.moves

abbrev pub occurs : Arrow → List Row → Bool
occurs k rows = list_any (has_kind k) rows

abbrev pub kind_if : List Row → Arrow → List Arrow
kind_if rows k = if occurs k rows then k ∷ [] else []

-- those by which a host reads a word, and the others
abbrev pub told_kinds : List Row → List Arrow
told_kinds rows = kind_if rows Clear ++ kind_if rows Checked ++ kind_if rows Opened ++ kind_if rows Revealed

abbrev pub hidden_kinds : List Row → List Arrow
hidden_kinds rows = kind_if rows Shared ++ kind_if rows Committed ++ kind_if rows Converted ++ kind_if rows Stays

abbrev pub kinds_of : List Row → List Arrow
kinds_of rows = told_kinds rows ++ hidden_kinds rows

-- ---- their marks, one below the other

abbrev pub meaning_marks : ℕ → Arrow → List Mark
meaning_marks y k = line_marks k y 24 104 ++ mark.Text style.Plain (at 112 (plus y 4)) (meaning k) ∷ []

abbrev pub meanings : ℕ → List Arrow → List Mark
meanings y [] = []
meanings y (k ∷ ks) = meaning_marks y k ++ meanings (plus y 20) ks
