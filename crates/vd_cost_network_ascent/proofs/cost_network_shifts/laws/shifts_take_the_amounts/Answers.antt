use Rattle.vd_cost_network_dual.specs.Rows.{row_of}
use Rattle.vd_cost_network_ascent.proofs.Taken.{taken}
use Rattle.vd_cost_network_ascent.proofs.cost_network_shifts.laws.shifts_take_the_amounts.Goals as goal

pub returns : goal.returns
returns c = λ nets places arcs at v w low first second. taken at v w (row_of nets.firsts) (row_of nets.seconds) places arcs low first second
