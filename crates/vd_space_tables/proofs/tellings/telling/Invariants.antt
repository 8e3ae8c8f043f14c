use Rattle.std.proofs.Common.{◌≡◌}
use Rattle.vd_space_prefix.specs.Transfers.{by_place}
use Rattle.vd_space_tables.specs.Charges.{told_charge_of}
use Rattle.vd_space_tables.proofs.tellings.telling.Given as goal

abbrev pub invariant-loop-host : goal.invariant-loop-host
invariant-loop-host l = record {
  free : l.free ≡ by_place l.host (λ h. (told_charge_of l.problem l.guard h).free);
  costs : l.costs ≡ by_place l.host (λ h. (told_charge_of l.problem l.guard h).costs);
}
