use Rattle.vd_cmd_draw.proofs.Telling.{drawings_tell}
use Rattle.vd_cmd_draw.proofs.laws.drawings_tell.Goals as goal

pub returns : goal.returns
returns c = drawings_tell
