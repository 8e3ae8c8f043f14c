use Rattle.std.proofs.Common.{◌-◌, ◌≡◌, ◌≤◌, replicate, []}
use Rattle.vd_world.proofs.host.no_links.Given as goal

abbrev pub invariant-loop-i : goal.invariant-loop-i
invariant-loop-i l = record {
  within : l.i ≤ l.hosts;
  so_far : l.links.items ≡ replicate l.i [];
}

abbrev pub decreases-loop-i : goal.decreases-loop-i
decreases-loop-i l = l.hosts - l.i
