use Rattle.vd_bits.proofs.Masks.{mask_code}
use Rattle.vd_bits.proofs.steps.mask.Goals as goal

pub returns-clause-exact : goal.returns-clause-exact
returns-clause-exact c =
    mask_code c.args.pair.now.first c.args.pair.now.second c.args.x c.reserve-at.result c.args.to.now c.reserve-at.new.to c.mask_part.new.to c.mask_part-2.new.to
    c.reserve-at.ensures.exact (c.in_ok-mask_part.ensures {u = tt}) (c.in_ok-mask_part-2.ensures {u = tt})
