use Rattle.vd_space.proofs.Front.{network_tree_bounded}
use Rattle.vd_cost_network_prefix.proofs.path.NetworkPathPrefixes.slots.Goals as goal

pub returns-clause-bounded : goal.returns-clause-bounded
returns-clause-bounded c = network_tree_bounded c.args.self.now.problem.now c.args.self.now.holds c.args.self.now.by_arcs.now.shifts
