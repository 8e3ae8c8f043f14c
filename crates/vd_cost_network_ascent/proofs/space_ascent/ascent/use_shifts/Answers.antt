use Rattle.std.proofs.Common.{ap, length, arith}
use Rattle.vd_space.proofs.Front.{few_in}
use Rattle.vd_cost_network_ascent.proofs.Naming.{of_problem}
use Rattle.vd_cost_network_ascent.proofs.space_ascent.ascent.use_shifts.Goals as goal

pub shifts_of-requires : goal.shifts_of-requires
shifts_of-requires c = let same = ap length c.requires.all in let few = few_in c.args.problem.now c.requires.labelled in omega (arith, same, few)

pub returns : goal.returns
returns c = of_problem c.args.problem.now _ _ c.shifts_of.result (ap length c.as_slice-count.ensures) (ap length c.requires.all) c.shifts_of.ensures.shifts
