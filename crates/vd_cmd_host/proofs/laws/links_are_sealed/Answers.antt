use Rattle.vd_cmd_host.proofs.Sealing.{are_sealed}
use Rattle.vd_cmd_host.proofs.laws.links_are_sealed.Goals as goal

pub returns : goal.returns
returns c = are_sealed
