use Rattle.std.proofs.Common.{◌≡◌, filter}
use Rattle.std.specs.List.{range_with_len}
use Rattle.vd_space.specs.Validity.{can_stand}
use Rattle.vd_diag_terminal.proofs.diag_choice.left.candidates.Given as goal

abbrev pub invariant-loop-place : goal.invariant-loop-place
invariant-loop-place l = l.places ≡ filter (can_stand l.problem l.making) (range_with_len 0 l.place)
