use Rattle.std.proofs.Common.{◌≡◌, ◌++◌, replicate}
use Rattle.vd_diag.proofs.diag_place.excerpts.push_blanks.Given as goal

abbrev pub invariant-loop-blank : goal.invariant-loop-blank
invariant-loop-blank l = l.text ≡ l.initial.text ++ replicate l._blank 32
