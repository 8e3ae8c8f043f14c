use Rattle.std.proofs.Common.{◌≡◌, map, take}
use Rattle.vd_space.specs.Costs.{weigh}
use Rattle.vd_space.specs.Arcs.{parts}
use Rattle.vd_cost_network_tables.proofs.arcs.scaled_row.Given as goal

abbrev pub invariant-loop-price : goal.invariant-loop-price
invariant-loop-price l = l.row ≡ map (λ price. parts (weigh l.weight price)) (take l.price-index l.prices)
