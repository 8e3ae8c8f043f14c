-- How large a generated source may be.
use Rattle.std.specs.Prelude.{ℕ}

-- coordinates of a point, which has at least one
abbrev pub most_coordinates : ℕ
most_coordinates = 100
