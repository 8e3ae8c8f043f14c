use Rattle.std.proofs.Common.{◌≡◌, ◌++◌, drop}
use Rattle.vd_space_prefix.specs.Naming.{numbers_from}
use Rattle.vd_cost_network_prefix.specs.Reach.{has_end, arcs_at}
use Rattle.vd_cost_network_prefix.proofs.reach.arcs_at.Given as goal

abbrev pub invariant-loop-number : goal.invariant-loop-number
invariant-loop-number l = l.numbers ++ numbers_from (has_end l.point) l.number (drop l.number l.arcs) ≡ arcs_at l.arcs l.point
