use Rattle.std.proofs.Common.{◌≡◌, ◌++◌, take, flat_map}
use Rattle.vd_draw_layout.specs.Titles.{move_title}
use Rattle.vd_draw_layout.proofs.titles.push_moves.Given as goal

abbrev pub invariant-loop-one : goal.invariant-loop-one
invariant-loop-one l = l.text ≡ l.initial.text ++ flat_map (move_title l.hosts l.slots) (take l.one-index l.moves)
