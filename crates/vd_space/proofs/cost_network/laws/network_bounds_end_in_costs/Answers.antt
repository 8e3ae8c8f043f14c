use Rattle.vd_space.proofs.CostNetworkBounded.{units_whole, network_high_whole}
use Rattle.vd_space.proofs.cost_network.laws.network_bounds_end_in_costs.Goals as goal

pub returns : goal.returns
returns c = record { by_arcs = units_whole; high = network_high_whole }
