use Rattle.vd_backend_laws.proofs.PlanTidy.{tidy_alike}
use Rattle.vd_backend_laws.proofs.PlanRuns.{runs_alike, goes_smoothly}
use Rattle.vd_backend_laws.proofs.plans_run_as_their_code.Goals as goal

pub returns-clause-runs : goal.returns-clause-runs
returns-clause-runs c = runs_alike

pub returns-clause-smooth : goal.returns-clause-smooth
returns-clause-smooth c = goes_smoothly

pub returns-clause-tidy : goal.returns-clause-tidy
returns-clause-tidy c = tidy_alike
