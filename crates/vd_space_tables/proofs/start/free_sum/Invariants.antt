use Rattle.std.proofs.Common.{◌≡◌, ◌*◌, take}
use Rattle.vd_space.specs.Costs.{total}
use Rattle.vd_space_prefix.specs.Transfers.{IsWithin}
use Rattle.vd_space_tables.specs.declared.charges.Charge.{Charge}
use Rattle.vd_space_tables.proofs.start.free_sum.Given as goal

abbrev pub invariant-loop-charge : goal.invariant-loop-charge
invariant-loop-charge l = record {
  sum : l.sum ≡ total (λ (charge : Charge). charge.free) (take l.charge-index l.charges);
  within : IsWithin (1125899906842624 * l.charge-index) l.sum;
}
