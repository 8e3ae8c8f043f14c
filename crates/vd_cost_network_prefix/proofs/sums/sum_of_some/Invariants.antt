use Rattle.std.proofs.Common.{◌≡◌, ◌*◌, take}
use Rattle.vd_space.specs.Costs.{total}
use Rattle.vd_space_prefix.specs.Transfers.{IsWithin}
use Rattle.vd_cost_network_prefix.specs.States.{as_states, arc_part}
use Rattle.vd_cost_network_prefix.proofs.sums.sum_of_some.Given as goal

abbrev pub invariant-loop-number : goal.invariant-loop-number
invariant-loop-number l = record {
  sum : l.sum ≡ total (arc_part l.tables (as_states l.states)) (take l.number-index l.numbers);
  within : IsWithin (1125899906842624 * l.number-index) l.sum;
}
