use Rattle.std.proofs.Common.{◌≡◌, ◌≤◌, length, drop}
use Rattle.vd_search_tree.specs.Scan.{digits_after, number}
use Rattle.vd_search_tree.proofs.search_certificate.reader.read_number.Given as goal

abbrev pub invariant-loop-at : goal.invariant-loop-at
invariant-loop-at l = record {
  within : l.at ≤ length l.bytes;
  from_least : l.least ≤ l.number;
  to_most : l.number ≤ l.most;
  same : digits_after l.most l.end l.number (drop l.at l.bytes) ≡ number l.least l.most l.end (drop l.start l.bytes);
}
