use Rattle.std.proofs.Common.{◌≡◌, filter, take}
use Rattle.vd_diag_terminal.specs.Stuck.{comes_to}
use Rattle.vd_diag_terminal.proofs.diag_choice.left.kept_places.Given as goal

abbrev pub invariant-loop-place : goal.invariant-loop-place
invariant-loop-place l = l.places ≡ filter (comes_to l.problem l.sources) (take l.place-index l.targets)
