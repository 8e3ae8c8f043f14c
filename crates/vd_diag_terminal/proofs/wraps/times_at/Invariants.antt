use Rattle.std.proofs.Common.{◌≡◌, ◌≤◌, take}
use Rattle.std.specs.List.{count_by}
use Rattle.vd_diag_terminal.specs.Wraps.{is_at}
use Rattle.vd_diag_terminal.proofs.wraps.times_at.Given as goal

abbrev pub invariant-loop-other : goal.invariant-loop-other
invariant-loop-other l = record {
  few : l.times ≤ l.other-index;
  count : l.times ≡ count_by (is_at l.wrap) (take l.other-index l.wraps);
}
