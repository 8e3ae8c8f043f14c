use Rattle.vd_draw_rows.proofs.Sums.{add_up}
use Rattle.vd_draw_rows.proofs.laws.costs_add_up.Goals as goal

pub returns : goal.returns
returns c = add_up
