use Rattle.std.proofs.Common.{take}
use Rattle.std.specs.Prelude.{All}
use Rattle.vd_diag_terminal.specs.Bare.{HasCandidate}
use Rattle.vd_diag_terminal.proofs.diag_choice.bare.first_bare.Given as goal

-- each slot before has a candidate
abbrev pub invariant-loop-place : goal.invariant-loop-place
invariant-loop-place l = All (HasCandidate l.problem) (take l.place l.makings)
