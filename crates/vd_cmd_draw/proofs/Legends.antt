-- Kinds of arrows are told apart: each is found again from how it looks, and from what the legend says.
use Rattle.std.proofs.Common.{◌≡◌, ℕ, Bool, if◌then◌else◌, List, codes, refl, sym, ap, ◌∙◌}
use Rattle.std.specs.Str.{bytes_eq}
use Rattle.vd_draw_rows.specs.declared.row.Arrow.{Arrow}
use Rattle.vd_draw_rows.specs.declared.row.Arrow.TheVariants.{Clear, Checked, Opened, Revealed, Shared, Committed, Converted, Stays}
use Rattle.vd_draw_picture.specs.Legend.{meaning}
use Rattle.vd_cmd_draw.specs.Showing.{brings}
use Rattle.vd_cmd_draw.specs.Legends.{ArrowsAreToldApart, begins, class_of, is_read_class, says_read}

said : (k : Arrow) → says_read (meaning k) ≡ brings k
said Clear = refl
said Checked = refl
said Opened = refl
said Revealed = refl
said Shared = refl
said Committed = refl
said Converted = refl
said Stays = refl

drawn : (k : Arrow) → is_read_class (class_of k) ≡ brings k
drawn Clear = refl
drawn Checked = refl
drawn Opened = refl
drawn Revealed = refl
drawn Shared = refl
drawn Committed = refl
drawn Converted = refl
drawn Stays = refl

abbrev of_class : List ℕ → Arrow
of_class class =
    if bytes_eq class (codes "clear") then Clear
    else if bytes_eq class (codes "checked") then Checked
    else if bytes_eq class (codes "opened") then Opened
    else if bytes_eq class (codes "revealed") then Revealed
    else if bytes_eq class (codes "shared") then Shared
    else if bytes_eq class (codes "committed") then Committed
    else if bytes_eq class (codes "converted") then Converted
    else Stays

class_found : (k : Arrow) → of_class (class_of k) ≡ k
class_found Clear = refl
class_found Checked = refl
class_found Opened = refl
class_found Revealed = refl
class_found Shared = refl
class_found Committed = refl
class_found Converted = refl
class_found Stays = refl

abbrev of_text : List ℕ → Arrow
of_text text =
    if begins text (codes "in clear:") then Clear
    else if begins text (codes "in clear") then Checked
    else if begins text (codes "opened") then Opened
    else if begins text (codes "revealed") then Revealed
    else if begins text (codes "shared") then Shared
    else if begins text (codes "committed") then Committed
    else if begins text (codes "converted") then Converted
    else Stays

text_found : (k : Arrow) → of_text (meaning k) ≡ k
text_found Clear = refl
text_found Checked = refl
text_found Opened = refl
text_found Revealed = refl
text_found Shared = refl
text_found Committed = refl
text_found Converted = refl
text_found Stays = refl

pub arrows_told_apart : ArrowsAreToldApart
arrows_told_apart = record {
  said = said;
  drawn = drawn;
  by_look = λ k l same. sym (class_found k) ∙ ap of_class same ∙ class_found l;
  by_legend = λ k l same. sym (text_found k) ∙ ap of_text same ∙ text_found l;
}
