use Rattle.std.proofs.Math.Logic.{∥∥₁_map}
use Rattle.vd_channel_link.proofs.Sealed.{listen_on}
use Rattle.vd_channel_link.proofs.channel_net.run_net.RunNetNet.listen.Goals as goal

pub invariant_of-self : goal.invariant_of-self
invariant_of-self g c = record {
  held = c.args.self.now.held;
  sealed = ∥∥₁_map c.args.self.now.sealed (λ has. listen_on g.R.SealedRun.by g.R.SealedRun.start c.args.self.now.net.now.seal c.listen.new.self.seal
      (g.N.Net.view c.args.self.now.net.now.net) (g.N.Net.view c.listen.new.self.net) c.args.address.now c.listen.result has
      c.listen.ensures.first c.listen.ensures.none c.listen.ensures.below);
}
