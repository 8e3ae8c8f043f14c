use Rattle.std.proofs.Common.{◌≡◌, map, take}
use Rattle.std.specs.Prelude.{unwrap_or}
use Rattle.vd_space.specs.Network.{no_parts_left}
use Rattle.vd_cost_network_tables.proofs.cells.numbers_of.Given as goal

abbrev pub invariant-loop-value : goal.invariant-loop-value
invariant-loop-value l = l.numbers ≡ map (λ value. unwrap_or value no_parts_left) (take l.value-index l.values)
