use Rattle.vd_backend_sharing.specs.Sharings.{sharing_of}
use Rattle.vd_backend_sharing.proofs.Emitted.{masked_code}
use Rattle.vd_backend_sharing.proofs.pair.Pair.mask.Goals as goal

pub returns : goal.returns
returns c =
    masked_code (sharing_of c.args.self.now.sharing) c.args.self.now.first c.args.self.now.second c.args.x.first c.args.x.second c.args.y.first c.args.y.second
    c.args.at.first.0 c.args.at.second.0 c.args.to.now c.hide.new.to c.hide-2.new.to c.tell_masked.new.to c.tell_masked-2.new.to
    (c.in_ok-hide.ensures {u = tt}) (c.in_ok-hide-2.ensures {u = tt}) (c.in_ok-tell_masked.ensures {u = tt}) (c.in_ok-tell_masked-2.ensures {u = tt})
