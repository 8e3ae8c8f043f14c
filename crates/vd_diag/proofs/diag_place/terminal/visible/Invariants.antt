use Rattle.std.proofs.Common.{◌≡◌, ◌++◌, drop}
use Rattle.vd_diag.specs.Shown.{visible}
use Rattle.vd_diag.proofs.diag_place.terminal.visible.Given as goal

-- the bytes that are left complete those so far
abbrev pub invariant-loop-place : goal.invariant-loop-place
invariant-loop-place l = l.text ++ visible (drop l.place l.bytes) ≡ visible l.bytes
