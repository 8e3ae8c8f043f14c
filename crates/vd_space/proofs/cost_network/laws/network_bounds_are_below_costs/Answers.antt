use Rattle.vd_space.proofs.CostNetworkBounded.{units_below, network_high_below}
use Rattle.vd_space.proofs.cost_network.laws.network_bounds_are_below_costs.Goals as goal

pub returns : goal.returns
returns c = record { by_arcs = units_below; high = network_high_below }
