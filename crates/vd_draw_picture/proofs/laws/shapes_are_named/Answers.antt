use Rattle.vd_draw_picture.proofs.Drawn.{shapes_named}
use Rattle.vd_draw_picture.proofs.laws.shapes_are_named.Goals as goal

pub returns : goal.returns
returns c = shapes_named
