use Rattle.std.proofs.Common.{arith}
use Rattle.vd_space_api.proofs.Smalls.{told_small}
use Rattle.vd_space_api.proofs.bound.guard_told.Goals as goal

pub returns-then-is_part-clause-small : goal.returns-then-is_part-clause-small
returns-then-is_part-clause-small c =
    let guard = c.args.guard.now in
    let low = told_small c.args.problem.now c.requires.list.labelled.few_hosts c.args.prefix.now c.from.result guard.weight c.args.host c.requires.weight in
    omega (arith, low, c.least_told.ensures)
