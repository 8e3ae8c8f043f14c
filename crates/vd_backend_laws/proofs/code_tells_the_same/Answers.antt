use Rattle.vd_backend_laws.proofs.Whole.{code_tells_the_same, code_runs_well, loops_are_needed}
use Rattle.vd_backend_laws.proofs.code_tells_the_same.Goals as goal

pub returns-clause-tells : goal.returns-clause-tells
returns-clause-tells c = code_tells_the_same

pub returns-clause-runs_well : goal.returns-clause-runs_well
returns-clause-runs_well c = code_runs_well

pub returns-clause-loops : goal.returns-clause-loops
returns-clause-loops c = loops_are_needed
