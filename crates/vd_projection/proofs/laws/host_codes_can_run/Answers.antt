use Rattle.vd_projection.proofs.HostCodes.{codes_can_be_loaded, codes_run_as_told, codes_run_well}
use Rattle.vd_projection.proofs.laws.host_codes_can_run.Goals as goal

pub returns-clause-loads : goal.returns-clause-loads
returns-clause-loads c = codes_can_be_loaded

pub returns-clause-runs : goal.returns-clause-runs
returns-clause-runs c = codes_run_as_told

pub returns-clause-well : goal.returns-clause-well
returns-clause-well c = codes_run_well
