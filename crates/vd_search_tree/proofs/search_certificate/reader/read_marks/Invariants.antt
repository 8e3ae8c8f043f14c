use Rattle.std.proofs.Common.{◌≡◌, drop}
use Rattle.vd_search_tree.specs.Scan.{scan_marks}
use Rattle.vd_search_tree.proofs.search_certificate.reader.read_marks.Given as goal

abbrev pub invariant-loop-at : goal.invariant-loop-at
invariant-loop-at l = record {
  shifts_same : l.shifts ≡ l.initial.shifts;
  same : scan_marks l.cost l.by_arcs l.initial.shifts l.marks (drop l.at l.bytes) ≡ scan_marks l.cost l.by_arcs l.initial.shifts l.initial.marks (drop l.start l.bytes);
}
