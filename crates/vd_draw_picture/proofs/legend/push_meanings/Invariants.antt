use Rattle.std.proofs.Common.{◌≡◌, ◌++◌, drop}
use Rattle.vd_draw_picture.specs.Legend.{meanings}
use Rattle.vd_draw_picture.proofs.legend.push_meanings.Given as goal

abbrev pub invariant-loop-kind : goal.invariant-loop-kind
invariant-loop-kind l = l.marks ++ meanings l.y (drop l.kind-index l.kinds) ≡ l.initial.marks ++ meanings 16 l.kinds
