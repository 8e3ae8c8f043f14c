use Rattle.std.proofs.Common.{◌≡◌, ◌≤◌, ◌-◌, ◌++◌, length, take, IsTrue}
use Rattle.vd_channel_link.proofs.filling.fill.Given as goal

abbrev pub invariant-loop-filled : goal.invariant-loop-filled
invariant-loop-filled g l = record {
  within : l.filled ≤ length l.into;
  same : length l.into ≡ length l.initial.into;
  later : (g.L.Link.view l.initial.link).faults ≤ (g.L.Link.view l.link).faults;
  still_told : (g.L.Link.view l.link).told ≡ (g.L.Link.view l.initial.link).told;
  sent : IsTrue (g.L.Link.view l.link).told → (g.L.Link.view l.link).sent ≡ (g.L.Link.view l.initial.link).sent;
  came : IsTrue (g.L.Link.view l.link).told → (g.L.Link.view l.initial.link).coming ≡ take l.filled l.into ++ (g.L.Link.view l.link).coming;
}

abbrev pub decreases-loop-filled : goal.decreases-loop-filled
decreases-loop-filled g l = length l.initial.into - l.filled
