-- What the rows of a drawing cost together.
use Rattle.std.specs.Prelude.{◌≡◌, ℕ, List}
use Rattle.std.specs.List.{fold}
use Rattle.vd_draw_rows.specs.declared.row.Row.{Row}
use Rattle.vd_draw_layout.specs.declared.runs.Drawn.{Drawn}
use Rattle.vd_draw_layout.specs.Layout.{total_cost}
use Rattle.vd_draw_layout.specs.Numbers.{plus}
use Rattle.vd_draw_layout.specs.Runs.{drawn_rows}

abbrev pub with_drawn : ℕ → Drawn → ℕ
with_drawn total row = plus total row.cost

-- no row is left out, and none is counted twice, where rows are drawn as one
abbrev pub DrawnCostsAddUp : Type 0
DrawnCostsAddUp = (rows : List Row) → fold with_drawn 0 (drawn_rows rows) ≡ total_cost rows
