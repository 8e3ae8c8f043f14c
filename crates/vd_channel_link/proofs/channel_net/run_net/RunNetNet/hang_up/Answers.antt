use Rattle.std.proofs.Math.Logic.{∥∥₁_map₂}
use Rattle.vd_channel_link.proofs.Sealed.{hung_up}
use Rattle.vd_channel_link.proofs.channel_net.run_net.RunNetNet.hang_up.Goals as goal

pub invariant_of-self : goal.invariant_of-self
invariant_of-self g c = record {
  held = c.args.self.now.held;
  sealed = ∥∥₁_map₂ c.args.self.now.sealed c.args.link.sealed (λ has so. hung_up g.R.SealedRun.by g.R.SealedRun.start c.args.self.now.net.now.seal c.hang_up.new.self.seal
      (g.N.Net.view c.args.self.now.net.now.net) (g.N.Net.view c.hang_up.new.self.net)
      c.args.link.link.session (g.N.Link.Link.view c.args.link.link.link) has c.hang_up.ensures.seal so c.hang_up.ensures.below);
}
