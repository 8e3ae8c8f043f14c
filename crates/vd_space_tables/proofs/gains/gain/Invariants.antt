use Rattle.std.proofs.Common.{◌≡◌, ◌*◌, take}
use Rattle.vd_space.specs.Costs.{total}
use Rattle.vd_space_prefix.specs.Transfers.{IsWithin}
use Rattle.vd_space_tables.specs.Gains.{gain_at_slot}
use Rattle.vd_space_tables.proofs.gains.gain.Given as goal

abbrev pub invariant-loop-output : goal.invariant-loop-output
invariant-loop-output l = record {
  sum : l.sum ≡ total (gain_at_slot l.charge.slot l.place) (take l.output-index l.outputs);
  within : IsWithin (2147483648 * l.output-index) l.sum;
}
