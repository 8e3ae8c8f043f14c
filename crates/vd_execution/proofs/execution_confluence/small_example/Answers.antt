use Rattle.vd_execution.proofs.Small.{printed}
use Rattle.vd_execution.proofs.execution_confluence.small_example.Goals as goal

pub returns : goal.returns
returns c = printed
