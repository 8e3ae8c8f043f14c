use Rattle.std.proofs.Common.{◌≡◌, drop}
use Rattle.std.specs.List.{list_any}
use Rattle.vd_diag_terminal.specs.Wraps.{is_at}
use Rattle.vd_diag_terminal.proofs.wraps.is_among.Given as goal

abbrev pub invariant-loop-place : goal.invariant-loop-place
invariant-loop-place l = list_any (is_at l.wrap) (drop l.place-index l.places) ≡ list_any (is_at l.wrap) l.places
