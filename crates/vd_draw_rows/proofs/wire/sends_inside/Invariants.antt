use Rattle.std.proofs.Common.{◌≡◌, drop}
use Rattle.vd_draw_rows.specs.Wire.{sends_inside}
use Rattle.vd_draw_rows.proofs.wire.sends_inside.Given as goal

-- the rows so far stand deeper, and hosts send in none of them
abbrev pub invariant-loop-place : goal.invariant-loop-place
invariant-loop-place l = sends_inside l.depth (drop l.place l.rows) ≡ sends_inside l.depth l.rows
