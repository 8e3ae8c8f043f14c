use Rattle.std.proofs.Common.{◌≡◌, map, take}
use Rattle.vd_space_tables.specs.Gains.{gains_with}
use Rattle.vd_space_tables.proofs.gains.gains_by_slot.Given as goal

abbrev pub invariant-loop-charge : goal.invariant-loop-charge
invariant-loop-charge l = l.gains ≡ map (gains_with l.outputs) (take l.charge-index l.charges)
