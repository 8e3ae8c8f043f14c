use Rattle.std.proofs.Common.{◌≡◌, ◌≤◌, ◌-◌, [], length, drop, Some}
use Rattle.vd_search_tree.specs.Scan.{scan_shifts, scan_counted, scan_marks}
use Rattle.vd_search_tree.proofs.search_certificate.reader.read_counted.Given as goal

abbrev pub invariant-loop-taken : goal.invariant-loop-taken
invariant-loop-taken l = record {
  within : l.at ≤ length l.bytes;
  same : scan_shifts (l.count - l.taken) l.shifts (λ shifts. scan_marks (Some l.cost) l.by_arcs shifts []) (drop l.at l.bytes) ≡ scan_counted l.by_arcs l.cost l.count (drop l.start l.bytes);
}
