use Rattle.std.proofs.Common.{◌≡◌, ◌++◌, take, flat_map}
use Rattle.vd_diag_terminal.specs.Wraps.{wrap_line}
use Rattle.vd_diag_terminal.proofs.wraps.push_lines.Given as goal

abbrev pub invariant-loop-place : goal.invariant-loop-place
invariant-loop-place l = l.text ≡ l.initial.text ++ flat_map (wrap_line l.coloured l.name l.bytes l.wraps) (take l.place-index l.places)
