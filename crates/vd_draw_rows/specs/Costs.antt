-- What rows cost, and that the drawn costs add up.
use Rattle.std.specs.Prelude.{◌≡◌, ℕ, ◌+◌, ◌*◌, List, pos}
use Rattle.vd_base.specs.declared.protocols.Proto.{Proto}
use Rattle.vd_core.specs.declared.normal.NormalForm.{NormalForm}
use Rattle.vd_constraints.specs.declared.labels.Labels.{Labels}
use Rattle.vd_space.specs.Reading.{problem_of}
use Rattle.vd_space.specs.Cheapest.{IsAssignment, cost_of}
use Rattle.vd_core.specs.Facts.{IsWellMade}
use Rattle.vd_space.specs.Sizes.{heft}
use Rattle.vd_draw_rows.specs.declared.row.Move.{Move}
use Rattle.vd_draw_rows.specs.declared.row.Row.{Row}
use Rattle.vd_draw_rows.specs.Rows.{rows_of}

abbrev pub move_cost : Move → ℕ
move_cost m = m.cost

-- of one row: its operation and its moves, as often as it is done
abbrev pub row_cost : Row → ℕ
row_cost row = row.weight * (row.operation + heft move_cost row.moves)

-- the sum of those
abbrev pub rows_cost : List Row → ℕ
rows_cost rows = heft row_cost rows

-- the costs of the rows of a program at a valid assignment add up to what it costs
abbrev pub CostsAddUp : Type 0
CostsAddUp =
    (source : List ℕ) (p : NormalForm) (l : Labels) (protocols : List Proto)
    → IsWellMade p → (is : IsAssignment (problem_of p l) protocols)
    → pos (rows_cost (rows_of source p protocols)) ≡ cost_of (problem_of p l) protocols is
