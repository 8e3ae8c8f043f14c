-- What terms come to where no slot is decided.
use Rattle.std.specs.Prelude.{List, ℤ}
use Rattle.vd_space.specs.Costs.{total}
use Rattle.vd_space_prefix.specs.declared.transfers.Arc.{Arc}
use Rattle.vd_space_tables.specs.declared.charges.Charge.{Charge}

abbrev pub free_total : List Charge → ℤ
free_total charges = total (λ (charge : Charge). charge.free) charges

abbrev pub both_total : List Arc → ℤ
both_total arcs = total (λ (arc : Arc). arc.both) arcs
