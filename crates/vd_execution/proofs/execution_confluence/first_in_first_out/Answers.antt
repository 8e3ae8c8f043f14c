use Rattle.vd_execution.proofs.Queues.{queues_go}
use Rattle.vd_execution.proofs.execution_confluence.first_in_first_out.Goals as goal

pub returns : goal.returns
returns c = queues_go
