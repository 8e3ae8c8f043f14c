use Rattle.std.proofs.Math.Logic.{∥∥₁_map}
use Rattle.vd_channel_link.proofs.Sealed.{received_on}
use Rattle.vd_channel_link.proofs.channel_net.run_link.RunLinkLink.receive.Goals as goal

pub invariant_of-self : goal.invariant_of-self
invariant_of-self g c = record {
  sealed = ∥∥₁_map c.args.self.now.sealed (received_on g.R.SealedRun.by g.R.SealedRun.start c.args.self.now.link.session c.receive.new.self.session
      (g.L.Link.view c.args.self.now.link.link) (g.L.Link.view c.receive.new.self.link) c.receive.ensures.none_out);
}
