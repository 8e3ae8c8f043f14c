use Rattle.std.proofs.Common.{◌≡◌, ◌++◌, drop}
use Rattle.vd_cmd_draw.specs.Reveals.{moves_lines}
use Rattle.vd_cmd_draw.proofs.reveals_lines.push_row.Given as goal

-- the lines that are left complete those so far
abbrev pub invariant-loop-place : goal.invariant-loop-place
invariant-loop-place l = l.text ++ moves_lines l.listing.source.now l.listing.form.now l.listing.host l.around l.row l.seen (drop l.place l.moves)
    ≡ l.initial.text ++ moves_lines l.listing.source.now l.listing.form.now l.listing.host l.around l.row l.seen l.moves
