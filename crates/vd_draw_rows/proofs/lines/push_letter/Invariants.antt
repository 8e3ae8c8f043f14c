use Rattle.std.proofs.Common.{◌≡◌, ◌++◌, replicate}
use Rattle.vd_draw_rows.proofs.lines.push_letter.Given as goal

abbrev pub invariant-loop-blank : goal.invariant-loop-blank
invariant-loop-blank l = l.text ≡ l.initial.text ++ replicate l._blank 32
