use Rattle.std.proofs.Common.{◌≡◌, take}
use Rattle.std.specs.List.{fold}
use Rattle.vd_draw_layout.specs.Layout.{cost_drawn, raised}
use Rattle.vd_draw_layout.proofs.layout.greatest_cost.Given as goal

abbrev pub invariant-loop-row : goal.invariant-loop-row
invariant-loop-row l = l.most ≡ fold (raised cost_drawn) 0 (take l.row-index l.drawn)
