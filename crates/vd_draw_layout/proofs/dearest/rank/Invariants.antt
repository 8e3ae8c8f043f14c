use Rattle.std.proofs.Common.{◌≡◌, ◌≤◌, take}
use Rattle.std.specs.List.{count_by}
use Rattle.vd_draw_layout.specs.Dearest.{comes_first}
use Rattle.vd_draw_layout.proofs.dearest.rank.Given as goal

abbrev pub invariant-loop-other : goal.invariant-loop-other
invariant-loop-other l = record {
  few : l.count ≤ l.other-index;
  first : l.count ≡ count_by (comes_first l.number l.cost) (take l.other-index l.drawn);
}
