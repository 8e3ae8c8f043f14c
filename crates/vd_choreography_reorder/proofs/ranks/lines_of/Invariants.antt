use Rattle.std.proofs.Common.{◌≡◌}
use Rattle.vd_choreography_reorder.specs.Ranks.{lines_of}
use Rattle.vd_choreography_reorder.proofs.ranks.lines_of.Given as goal

abbrev pub invariant-loop-item : goal.invariant-loop-item
invariant-loop-item l = l.lines ≡ lines_of l.yielded
