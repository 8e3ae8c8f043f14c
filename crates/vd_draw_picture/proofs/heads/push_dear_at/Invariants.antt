use Rattle.std.proofs.Common.{◌≡◌, ◌++◌, take, flat_map}
use Rattle.vd_draw_picture.specs.Heads.{said_if_dear}
use Rattle.vd_draw_picture.proofs.heads.push_dear_at.Given as goal

abbrev pub invariant-loop-row : goal.invariant-loop-row
invariant-loop-row l = l.said ≡ l.initial.said ++ flat_map (said_if_dear l.layout l.place) (take l.row-index l.layout.drawn)
