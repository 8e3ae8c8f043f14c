use Rattle.std.proofs.Common.{◌≡◌, ◌≤◌, take}
use Rattle.std.specs.List.{count_by}
use Rattle.vd_draw_layout.specs.Runs.{is_move_seen}
use Rattle.vd_draw_layout.proofs.runs.arrows_of.Given as goal

abbrev pub invariant-loop-one : goal.invariant-loop-one
invariant-loop-one l = record {
  few : l.count ≤ l.one-index;
  seen : l.count ≡ count_by is_move_seen (take l.one-index l.row.moves);
}
