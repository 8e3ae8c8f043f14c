use Rattle.std.proofs.Common.{ap, arith}
use Rattle.vd_elaborate.proofs.AnfWellformedGrowth.{size}
use Rattle.vd_elaborate.proofs.Growth.{prefix_within}
use Rattle.vd_elaborate.proofs.steps.prefixes.Goals as goal

pub operation-requires : goal.operation-requires
operation-requires c =
    let fits = c.requires in
    let same = ap (λ z. size z.1) c.loop-sign.invariant in
    let within = prefix_within c.args.signs.now c.loop-sign.sign-index c.args.here c.loop-sign.x c.loop-sign.made c.loop-sign-test.true in
    omega arith
