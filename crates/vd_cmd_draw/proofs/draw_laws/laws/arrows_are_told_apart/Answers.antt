use Rattle.vd_cmd_draw.proofs.Legends.{arrows_told_apart}
use Rattle.vd_cmd_draw.proofs.draw_laws.laws.arrows_are_told_apart.Goals as goal

pub returns : goal.returns
returns c = arrows_told_apart
