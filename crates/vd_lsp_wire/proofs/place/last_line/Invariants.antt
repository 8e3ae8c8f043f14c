use Rattle.std.proofs.Common.{◌≡◌, ◌≤◌, take, drop, []}
use Rattle.std.specs.List.{fold}
use Rattle.vd_lsp_wire.specs.Places.{with_byte}
use Rattle.vd_lsp_wire.proofs.place.last_line.Given as goal

-- the line so far
abbrev pub invariant-loop-place : goal.invariant-loop-place
invariant-loop-place l = record {
  within : l.start ≤ l.place;
  line : drop l.start (take l.place l.bytes) ≡ fold with_byte [] (take l.place l.bytes);
}
