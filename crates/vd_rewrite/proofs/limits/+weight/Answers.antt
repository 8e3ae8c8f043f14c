use Rattle.std.proofs.Common.{◌*◌, ◌<◌, length, arith}
use Rattle.vd_rewrite.proofs.Weights.{some_weight}
use Rattle.vd_rewrite.proofs.limits.+weight.Goals as goal

pub after_turns-returns-in-None : goal.after_turns-returns-in-None
after_turns-returns-in-None t c =
    let some : 0 < length c.args.body.now = search (arith, c.if-is_empty.ensures) in
    let heavy = some_weight c.args.body.now (c.args.around * c.args.count) some in
    let large = c.in-None.ensures in
    let light = c.requires in
    omega arith
