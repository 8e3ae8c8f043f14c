use Rattle.std.proofs.Common.{◌≡◌, ◌++◌, [], drop}
use Rattle.vd_cmd_draw.specs.Reveals.{rows_lines}
use Rattle.vd_cmd_draw.proofs.reveals_lines.push_rows.Given as goal

-- the lines that are left complete those so far
abbrev pub invariant-loop-place : goal.invariant-loop-place
invariant-loop-place l = l.text ++ rows_lines l.listing.source.now l.listing.form.now l.listing.host l.begun (drop l.place l.rows)
    ≡ l.initial.text ++ rows_lines l.listing.source.now l.listing.form.now l.listing.host [] l.rows
