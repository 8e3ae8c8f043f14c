use Rattle.std.proofs.Common.{sym, ap, length, arith}
use Rattle.vd_space.proofs.Loops.{too_many_so_far}
use Rattle.vd_space.proofs.validity.are_candidates.Goals as goal

pub returns-then-prefix-makings : goal.returns-then-prefix-makings
returns-then-prefix-makings c =
    let same = ap length c.as_slice-makings.ensures in
    let more = c.if-prefix-makings.true in
    sym (too_many_so_far c.args.problem.now c.args.problem.now.slots c.args.prefix.now (omega (arith, same, more)))
