use Rattle.std.proofs.Math.Logic.{∥∥₁_map}
use Rattle.vd_channel_link.proofs.Sealed.{send_on}
use Rattle.vd_channel_link.proofs.channel_net.run_link.RunLinkLink.send.Goals as goal

pub invariant_of-self : goal.invariant_of-self
invariant_of-self g c = record {
  sealed = ∥∥₁_map c.args.self.now.sealed (send_on g.R.SealedRun.by g.R.SealedRun.start c.args.bytes.now c.args.self.now.link.session c.send.new.self.session
      (g.L.Link.view c.args.self.now.link.link) (g.L.Link.view c.send.new.self.link) c.send.result c.send.ensures.out c.send.ensures.cut);
}
