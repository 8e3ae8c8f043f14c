use Rattle.std.proofs.Math.Logic.{∥∥₁_map}
use Rattle.vd_channel_link.proofs.Sealed.{connect_on, given_on}
use Rattle.vd_channel_link.proofs.channel_net.run_net.RunNetNet.connect.Goals as goal

pub as_run_link-requires : goal.as_run_link-requires
as_run_link-requires g c = ∥∥₁_map c.args.self.now.sealed (λ has. given_on g.R.SealedRun.by g.R.SealedRun.start c.args.self.now.net.now.seal
    (g.N.Net.view c.args.self.now.net.now.net) c.in-Ok.link.session (g.N.Link.Link.view c.in-Ok.link.link) has (c.in-Ok.ensures {u = tt}).sealed)

pub invariant_of-self : goal.invariant_of-self
invariant_of-self g c = record {
  held = c.args.self.now.held;
  sealed = ∥∥₁_map c.args.self.now.sealed (λ has. connect_on g.R.SealedRun.by g.R.SealedRun.start c.args.self.now.net.now.seal c.connect.new.self.seal
      (g.N.Net.view c.args.self.now.net.now.net) (g.N.Net.view c.connect.new.self.net) has
      c.connect.ensures.kept c.connect.ensures.over);
}
