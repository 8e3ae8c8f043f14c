use Rattle.std.proofs.Common.{◌≡◌, drop}
use Rattle.vd_cost_network_prefix.specs.Reach.{names_slot}
use Rattle.vd_cost_network_prefix.proofs.reach.is_among.Given as goal

abbrev pub invariant-loop-other : goal.invariant-loop-other
invariant-loop-other l = names_slot l.slot (drop l.other-index l.slots) ≡ names_slot l.slot l.slots
