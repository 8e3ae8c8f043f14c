use Rattle.vd_space.proofs.CostNetworkBounded.{network_tree_bounded}
use Rattle.vd_space.proofs.cost_network.laws.network_trees_are_bounded.Goals as goal

pub returns : goal.returns
returns c = network_tree_bounded
