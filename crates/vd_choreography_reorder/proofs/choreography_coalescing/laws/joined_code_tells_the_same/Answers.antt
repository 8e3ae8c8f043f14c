use Rattle.vd_choreography_reorder.proofs.Telling.{joined_runs_on, joined_tells}
use Rattle.vd_choreography_reorder.proofs.choreography_coalescing.laws.joined_code_tells_the_same.Goals as goal

pub returns-clause-same : goal.returns-clause-same
returns-clause-same c = joined_tells

pub returns-clause-runs : goal.returns-clause-runs
returns-clause-runs c = joined_runs_on
