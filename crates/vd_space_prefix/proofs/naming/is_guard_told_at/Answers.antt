use Rattle.std.proofs.Common.{true}
use Rattle.vd_space.specs.Validity.{guard_told}
use Rattle.vd_space_prefix.proofs.Found.{found, missing}
use Rattle.vd_space_prefix.proofs.naming.is_guard_told_at.Goals as goal

pub returns-in-Some : goal.returns-in-Some
returns-in-Some c =
    let lookup = c.in-Some.ensures.lookup in
    found (guard_told c.args.problem.now c.args.after.now) c.args.problem.now.guards c.as_slice.result.now c.as_slice.ensures c.args.number true c.in-Some.guard.now c.is_guard_still_told.result lookup.0 lookup.1 c.is_guard_still_told.ensures

pub returns-in-None : goal.returns-in-None
returns-in-None c = missing (guard_told c.args.problem.now c.args.after.now) c.args.problem.now.guards c.as_slice.result.now c.as_slice.ensures c.args.number true c.in-None.ensures.lookup.3
