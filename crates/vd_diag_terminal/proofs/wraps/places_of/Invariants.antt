use Rattle.std.proofs.Common.{◌≡◌, [], take}
use Rattle.std.specs.List.{fold}
use Rattle.vd_diag_terminal.specs.Wraps.{with_place}
use Rattle.vd_diag_terminal.proofs.wraps.places_of.Given as goal

abbrev pub invariant-loop-wrap : goal.invariant-loop-wrap
invariant-loop-wrap l = l.places ≡ fold with_place [] (take l.wrap-index l.wraps)
