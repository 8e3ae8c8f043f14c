use Rattle.std.proofs.Common.{true}
use Rattle.vd_space.specs.Validity.{index_told}
use Rattle.vd_space_prefix.proofs.Found.{found, missing}
use Rattle.vd_space_prefix.proofs.naming.is_index_told_at.Goals as goal

pub returns-in-Some : goal.returns-in-Some
returns-in-Some c =
    let lookup = c.in-Some.ensures.lookup in
    found (index_told c.args.problem.now c.args.prefix.now) c.args.problem.now.indexes c.as_slice.result.now c.as_slice.ensures c.args.number true c.in-Some.index.now c.is_index_told.result lookup.0 lookup.1 c.is_index_told.ensures

pub returns-in-None : goal.returns-in-None
returns-in-None c = missing (index_told c.args.problem.now c.args.prefix.now) c.args.problem.now.indexes c.as_slice.result.now c.as_slice.ensures c.args.number true c.in-None.ensures.lookup.3
