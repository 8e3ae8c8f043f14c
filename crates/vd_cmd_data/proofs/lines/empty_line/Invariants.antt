use Rattle.vd_cmd_data.proofs.EmptyLines.{Scanned}
use Rattle.vd_cmd_data.proofs.lines.empty_line.Given as goal

abbrev pub invariant-loop-byte : goal.invariant-loop-byte
invariant-loop-byte l = Scanned l.fn.text l.byte-index l.scan
