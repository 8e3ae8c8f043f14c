use Rattle.std.proofs.Common.{◌≡◌, ◌++◌, drop}
use Rattle.vd_draw_layout.specs.Runs.{drawn_from, drawn_rows}
use Rattle.vd_draw_layout.proofs.runs.drawn_rows.Given as goal

abbrev pub invariant-loop-place : goal.invariant-loop-place
invariant-loop-place l = l.drawn ++ drawn_from l.number l.before l.cost (drop l.place l.rows) ≡ drawn_rows l.rows
