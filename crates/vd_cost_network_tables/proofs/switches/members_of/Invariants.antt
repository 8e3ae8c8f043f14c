use Rattle.std.proofs.Common.{◌≡◌, filter, take}
use Rattle.vd_space.specs.Points.{may_bring}
use Rattle.vd_cost_network_tables.proofs.switches.members_of.Given as goal

abbrev pub invariant-loop-slot : goal.invariant-loop-slot
invariant-loop-slot l = l.members ≡ filter (may_bring l.problem l.host) (take l.slot-index l.slots)
