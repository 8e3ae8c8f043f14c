use Rattle.vd_integrity_runs.proofs.Theorem.{runs_explained}
use Rattle.vd_integrity_runs.proofs.laws.attackers_choose_what_is_endorsed.Goals as goal

pub returns : goal.returns
returns c = runs_explained
