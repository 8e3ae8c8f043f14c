use Rattle.vd_cmd_draw.proofs.RevealsTold.{reveals_told}
use Rattle.vd_cmd_draw.proofs.laws.reveals_tell.Goals as goal

pub returns : goal.returns
returns c = reveals_told
