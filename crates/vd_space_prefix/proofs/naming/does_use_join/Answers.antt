use Rattle.std.proofs.Common.{true}
use Rattle.vd_space.specs.Validity.{use_joins}
use Rattle.vd_space_prefix.proofs.Found.{found, missing}
use Rattle.vd_space_prefix.proofs.naming.does_use_join.Goals as goal

pub returns-in-Some : goal.returns-in-Some
returns-in-Some c =
    let lookup = c.in-Some.ensures.lookup in
    found (use_joins c.args.problem.now c.args.prefix.now) c.args.problem.now.uses c.as_slice.result.now c.as_slice.ensures c.args.number true c.in-Some.u.now c.use_can_move.result lookup.0 lookup.1 c.use_can_move.ensures

pub returns-in-None : goal.returns-in-None
returns-in-None c = missing (use_joins c.args.problem.now c.args.prefix.now) c.args.problem.now.uses c.as_slice.result.now c.as_slice.ensures c.args.number true c.in-None.ensures.lookup.3
