use Rattle.vd_cmd_draw.proofs.Arrows.{arrows_show}
use Rattle.vd_cmd_draw.proofs.draw_laws.laws.arrows_show_what_is_told.Goals as goal

pub returns : goal.returns
returns c = arrows_show
