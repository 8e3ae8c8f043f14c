use Rattle.vd_cmd_draw.proofs.Adding.{costs_add_up}
use Rattle.vd_cmd_draw.proofs.draw_laws.laws.drawn_costs_add_up.Goals as goal

pub returns : goal.returns
returns c = costs_add_up
