-- What a drawing says of its arrows, and how it draws them.
use Rattle.std.specs.Prelude.{◌≡◌, ℕ, nat_eq, Bool, ◌||◌, List, codes}
use Rattle.std.specs.List.{starts_with}
use Rattle.std.specs.Str.{bytes_eq}
use Rattle.vd_draw_layout.specs.Classes.{stroke_class}
use Rattle.vd_draw_rows.specs.declared.row.Arrow.{Arrow}
use Rattle.vd_draw_picture.specs.Arrows.{stroke_of}
use Rattle.vd_draw_picture.specs.Legend.{meaning}
use Rattle.vd_cmd_draw.specs.Showing.{brings}

abbrev pub begins : List ℕ → List ℕ → Bool
begins text word = starts_with nat_eq text word

-- the legend says that the other host reads the word
abbrev pub says_read : List ℕ → Bool
says_read text = begins text (codes "in clear") || begins text (codes "opened") || begins text (codes "revealed")

-- a line of this class is drawn where the other host reads the word
abbrev pub is_read_class : List ℕ → Bool
is_read_class class =
    bytes_eq class (codes "clear") || bytes_eq class (codes "checked")
    || bytes_eq class (codes "opened") || bytes_eq class (codes "revealed")

-- how the lines of an arrow look
abbrev pub class_of : Arrow → List ℕ
class_of k = stroke_class (stroke_of k)

-- The legend says it of just the arrows that bring a host the word in clear, these alone are drawn so, and two kinds are told apart
-- by how they look and by what the legend says.
pub record ArrowsAreToldApart : Type 0 where
  pub said : (k : Arrow) → says_read (meaning k) ≡ brings k
  pub drawn : (k : Arrow) → is_read_class (class_of k) ≡ brings k
  pub by_look : (k l : Arrow) → class_of k ≡ class_of l → k ≡ l
  pub by_legend : (k l : Arrow) → meaning k ≡ meaning l → k ≡ l
