-- Where a text and its lines begin.
use Rattle.std.specs.Prelude.{◌≡◌, ℕ, List, []}
use Rattle.vd_diag.specs.Excerpts.{column}
use Rattle.vd_diag.specs.Lines.{line_before, line_number}

-- A text begins in line 1, and each of its lines in column 1, as editors count.
pub record PlacesCountFromOne : Type 0 where
  pub text : (bytes : List ℕ) → line_number bytes 0 ≡ 1
  pub line : (bytes : List ℕ) (offset : ℕ) → line_before bytes offset ≡ [] → column bytes offset ≡ 1
