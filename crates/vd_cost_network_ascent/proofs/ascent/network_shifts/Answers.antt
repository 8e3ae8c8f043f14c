use Rattle.std.proofs.Common.{ap, ◌∙◌, length, arith}
use Rattle.vd_space.proofs.Front.{few_in}
use Rattle.vd_cost_network_ascent.proofs.Making.{of_problem}
use Rattle.vd_cost_network_ascent.proofs.ascent.network_shifts.Goals as goal

pub shifts_of-requires : goal.shifts_of-requires
shifts_of-requires c = let same = ap length c.requires.list in let few = few_in c.args.problem.now c.requires.tables.well_formed.labelled in omega (arith, same, few)

pub returns : goal.returns
returns c = of_problem c.args.problem.now _ _ c.shifts_of.result (ap length c.as_slice-count.ensures ∙ c.requires.tables.arcs.size) (ap length c.requires.list) c.shifts_of.ensures.shifts
