use Rattle.std.proofs.Common.{◌≡◌, ◌≤◌, ◌+◌, length, drop}
use Rattle.vd_lsp_wire.specs.Places.{lines, lines_from}
use Rattle.vd_lsp_wire.proofs.place.lines.Given as goal

-- the lines that have ended, and those that end in what is left, are all
abbrev pub invariant-loop-byte : goal.invariant-loop-byte
invariant-loop-byte l = record {
  few : l.count ≤ l.byte-index;
  within : l.byte-index ≤ length l.bytes;
  lines : l.count + lines_from l.before (drop l.byte-index l.bytes) ≡ lines l.bytes;
}
