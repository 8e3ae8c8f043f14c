use Rattle.std.proofs.Math.Logic.{∥∥₁_map}
use Rattle.vd_channel_link.proofs.Sealed.{wait_on}
use Rattle.vd_channel_link.proofs.channel_net.run_net.RunNetNet.wait_at_most.Goals as goal

pub invariant_of-self : goal.invariant_of-self
invariant_of-self g c = record {
  held = c.args.self.now.held;
  sealed = ∥∥₁_map c.args.self.now.sealed (λ has. wait_on g.R.SealedRun.by g.R.SealedRun.start c.args.self.now.net.now.seal c.wait_at_most.new.self.seal
      (g.N.Net.view c.args.self.now.net.now.net) (g.N.Net.view c.wait_at_most.new.self.net) c.args.seconds has
      c.wait_at_most.ensures.seal c.wait_at_most.ensures.below);
}
