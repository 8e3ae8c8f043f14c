use Rattle.vd_cmd_plan.proofs.WholeRuns.{runs_ok, runs_err}
use Rattle.vd_cmd_plan.proofs.ending.finish.Goals as goal

pub returns-in-Ok : goal.returns-in-Ok
returns-in-Ok g c = λ fits plan before w. runs_ok fits plan before _ _ _ _ _ _ (rw c.in-Ok.is at w) c.deliver.ensures

pub returns-in-Err : goal.returns-in-Err
returns-in-Err g c = λ fits plan before w. runs_err fits plan before _ _ _ (rw c.in-Err.is at w)
