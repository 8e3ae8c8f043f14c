use Rattle.vd_channel_link.specs.Courses.{Course}
use Rattle.vd_channel_link.specs.Waits.{post_of}
use Rattle.vd_channel_link.proofs.channel_net.accepting.await_peer.Given as goal

abbrev pub invariant-loop : goal.invariant-loop
invariant-loop g l = record {
  course : Course g.N.Link.Link.view (post_of l.fn.seal l.listener) (g.N.Net.view l.fn.net) l.counter l.seal (g.N.Net.view l.net) l.waiting.items;
}
