use Rattle.vd_edge_processes.proofs.FirstCauses.{causes_first}
use Rattle.vd_edge_processes.proofs.laws.causes_come_first.Goals as goal

pub returns : goal.returns
returns c = causes_first
