use Rattle.vd_space.proofs.CostNetworkFew.{few_arcs}
use Rattle.vd_space.proofs.cost_network.laws.programs_have_few_arcs.Goals as goal

pub returns : goal.returns
returns c = few_arcs
