use Rattle.std.proofs.Common.{◌≡◌, ◌+◌, sym, ap, ◌∙◌, pos, arith}
use Rattle.vd_space_api.specs.Low.{low_number}
use Rattle.vd_space_api.proofs.Lows.{low_is}
use Rattle.vd_space_api.proofs.bound.lower_bound.Goals as goal

pub returns : goal.returns
returns c =
    let whole : c.operations_sum-operations.result + c.outputs_sum-outputs.result + c.uses_sum-uses.result + c.indexes_sum-indexes.result + c.guards_sum.result ≡ low_number c.args.problem.now c.args.prefix.now = omega (arith, c.operations_sum-operations.ensures.sum, c.outputs_sum-outputs.ensures.sum, c.uses_sum-uses.ensures.sum, c.indexes_sum-indexes.ensures.sum, c.guards_sum.ensures.sum) in
    ap pos whole ∙ sym (low_is c.args.problem.now c.args.prefix.now)
