-- Rows of tables of numbers.
use Rattle.std.specs.Prelude.{ℕ, List, [], ℤ, slice_get, Vec, vec_items}
use Rattle.std.specs.Option.{option_map_or}

-- the row with that number, which is empty past the end
abbrev pub row_in : {Z : Type 0} → List (Vec ℤ Z) → ℕ → List ℤ
row_in rows at = option_map_or vec_items (slice_get rows at) []

abbrev pub row_of : {Y Z : Type 0} → Vec (Vec ℤ Z) Y → ℕ → List ℤ
row_of rows at = row_in (vec_items rows) at
