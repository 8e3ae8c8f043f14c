use Rattle.vd_diag_terminal.proofs.Alike.{stay_secret}
use Rattle.vd_diag_terminal.proofs.laws.no_secret_is_told.Goals as goal

pub returns : goal.returns
returns c = stay_secret
