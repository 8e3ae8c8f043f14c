use Rattle.std.proofs.Common.{◌≡◌, ◌≤◌, length, drop}
use Rattle.vd_search_tree.specs.Scan.{word}
use Rattle.vd_search_tree.proofs.search_certificate.reader.read_word.Given as goal

abbrev pub invariant-loop-byte : goal.invariant-loop-byte
invariant-loop-byte l = record { within : l.at ≤ length l.bytes; same : word (drop l.byte-index l.expected) (drop l.at l.bytes) ≡ word l.expected (drop l.start l.bytes) }
