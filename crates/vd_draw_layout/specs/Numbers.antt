-- Points and costs are numbers of 64 bits: a greater one is the greatest of these.
use Rattle.std.specs.Prelude.{ℕ, ◌+◌, ◌-◌, ◌*◌, ◌^◌, min, List}
use Rattle.std.specs.List.{fold}
use Rattle.vd_draw_rows.specs.declared.row.Move.{Move}
use Rattle.vd_draw_rows.specs.declared.row.Row.{Row}

abbrev pub plus : ℕ → ℕ → ℕ
plus a b = min (a + b) (2 ^ 64 - 1)

abbrev pub times : ℕ → ℕ → ℕ
times a b = min (a * b) (2 ^ 64 - 1)

abbrev pub with_move : ℕ → Move → ℕ
with_move cost m = plus cost m.cost

abbrev pub moves_cost : List Move → ℕ
moves_cost moves = fold with_move 0 moves

-- of a row, as often as it is done
abbrev pub cost_of : Row → ℕ
cost_of row = times row.weight (plus row.operation (moves_cost row.moves))
