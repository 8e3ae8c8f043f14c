use Rattle.std.proofs.Common.{◌≡◌, ◌*◌, take}
use Rattle.vd_space.specs.Costs.{total}
use Rattle.vd_space_prefix.specs.declared.transfers.Arc.{Arc}
use Rattle.vd_space_prefix.specs.Transfers.{IsWithin}
use Rattle.vd_space_tables.proofs.start.both_sum.Given as goal

abbrev pub invariant-loop-number : goal.invariant-loop-number
invariant-loop-number l = record {
  sum : l.sum ≡ total (λ (arc : Arc). arc.both) (take l.number l.arcs);
  within : IsWithin (1125899906842624 * l.number) l.sum;
}
