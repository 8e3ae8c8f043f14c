use Rattle.vd_mux.proofs.HiddenGone.{hidden_go}
use Rattle.vd_mux.proofs.law.hidden_branches_go.Goals as goal

pub returns : goal.returns
returns c = hidden_go
