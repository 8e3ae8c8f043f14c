-- Where a text and its lines begin.
use Rattle.std.proofs.Common.{◌≡◌, ℕ, ◌+◌, false, List, [], ◌∷◌, refl, ap, ◌∙◌}
use Rattle.std.proofs.lemmas.Str.{chars-nil}
use Rattle.std.specs.Str.Lossy.{utf8_lossy}
use Rattle.unicode_width.specs.Width.{str_width}
use Rattle.vd_diag.specs.Begins.{PlacesCountFromOne}
use Rattle.vd_diag.specs.Lines.{line_number}
use Rattle.vd_diag.specs.Shown.{width}

nothing_is_wide : width [] ≡ 0
unfolding str_width utf8_lossy
nothing_is_wide = ap (str_width false) chars-nil

first_line : (bytes : List ℕ) → line_number bytes 0 ≡ 1
first_line [] = refl
first_line (b ∷ bs) = refl

pub places_from_one : PlacesCountFromOne
places_from_one = record {
  text = first_line;
  line = λ bytes offset empty. ap (λ (line : List ℕ). width line + 1) empty ∙ ap (λ (n : ℕ). n + 1) nothing_is_wide;
}
