use Rattle.vd_backend_sharing.specs.Sharings.{sharing_of}
use Rattle.vd_backend_sharing.proofs.Emitted.{product_code}
use Rattle.vd_backend_sharing.proofs.pair.Pair.product.Goals as goal

pub returns-clause-exact : goal.returns-clause-exact
returns-clause-exact c =
    product_code (sharing_of c.args.self.now.sharing) c.args.self.now.first c.args.self.now.second c.args.x c.args.y c.reserve-at.result
    c.args.to.now c.reserve-at.new.to c.mask.new.to c.unmask.new.to c.complete.new.to c.unmask-2.new.to c.reserve-at.ensures.exact
    (c.in_ok-mask.ensures {u = tt}) (c.in_ok-unmask.ensures {u = tt}) (c.in_ok-complete.ensures {u = tt}) (c.in_ok-unmask-2.ensures {u = tt})
