use Rattle.std.proofs.Common.{◌≡◌, ◌≤◌, ◌+◌, take}
use Rattle.std.specs.List.{count_by}
use Rattle.vd_diag.specs.Lines.{ends_line}
use Rattle.vd_diag.proofs.diag_place.lines.line_number.Given as goal

-- one more than the line ends so far
abbrev pub invariant-loop-byte : goal.invariant-loop-byte
invariant-loop-byte l = record {
  few : l.number ≤ l.byte-index + 1;
  lines : l.number ≡ count_by ends_line (take l.byte-index l.byte-items) + 1;
}
