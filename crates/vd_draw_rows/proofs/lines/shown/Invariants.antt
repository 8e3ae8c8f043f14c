use Rattle.std.proofs.Common.{◌≡◌, ◌≤◌, ◌++◌, drop}
use Rattle.vd_draw_rows.specs.Lines.{shown}
use Rattle.vd_draw_rows.proofs.lines.shown.Given as goal

-- what is left completes what there is
abbrev pub invariant-loop-place : goal.invariant-loop-place
invariant-loop-place l = record {
  few : l.blanks ≤ l.place;
  left : l.text ++ shown l.blanks (drop l.place l.line) ≡ shown 0 l.line;
}
