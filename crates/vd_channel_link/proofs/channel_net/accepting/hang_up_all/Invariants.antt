use Rattle.std.proofs.Common.{◌≡◌, ℕ, List, length}
use Rattle.vd_channel_link.specs.Courses.{AreWaiting}
use Rattle.vd_channel_link.specs.Waits.{Post, Waiter}
use Rattle.vd_channel_link.proofs.Turns.{Left}
use Rattle.vd_channel_link.proofs.channel_net.accepting.hang_up_all.Given as goal

abbrev pub invariant-loop-waiting : goal.invariant-loop-waiting
invariant-loop-waiting g l = record {
  given : (g.N.Net.view l.net).given ≡ (g.N.Net.view l.fn.net).given;
  limit : (g.N.Net.view l.net).limit ≡ (g.N.Net.view l.fn.net).limit;
  left : (post : Post) (tried : ℕ) (ones : List Waiter) → AreWaiting g.N.Link.Link.view post tried l.fn.waiting.items ones
      → Left g.N.Link.Link.view post tried (g.N.Net.view l.fn.net) (g.N.Net.view l.net) l.waiting.items ones;
}

abbrev pub decreases-loop-waiting : goal.decreases-loop-waiting
decreases-loop-waiting g l = length l.waiting.items
