-- The cost that a person reads in the heading of a drawing.
use Rattle.std.specs.Prelude.{◌≡◌, ℕ, ◌<◌, ◌^◌, List, ◌∷◌, ◌++◌, decimal, codes}
use Rattle.vd_report.specs.LineWords.{line_words}
use Rattle.vd_draw_rows.specs.declared.row.Row.{Row}
use Rattle.vd_draw_layout.specs.Layout.{layout_of, total_cost}
use Rattle.vd_draw_picture.specs.Heads.{summary}

-- The line begins with the word `cost` and this number with a comma, and then has how many slots there are.
pub record TellsCost (line : List ℕ) (cost slots : ℕ) : Type 0 where
  pub more : List (List ℕ)
  pub read : line_words line ≡ codes "cost" ∷ (decimal cost ++ codes ",") ∷ decimal slots ∷ more

-- the heading tells what all rows cost
abbrev pub HeadingTellsCost : Type 0
HeadingTellsCost =
    (hosts labels : List (List ℕ)) (rows : List Row) (slots : ℕ) → total_cost rows < 2 ^ 64 → slots < 2 ^ 64
    → TellsCost (summary (layout_of hosts labels rows) slots) (total_cost rows) slots
