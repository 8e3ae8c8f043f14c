use Rattle.vd_execution.proofs.Compiled.{in_program_order}
use Rattle.vd_execution.proofs.execution_confluence.program_order.Goals as goal

pub returns : goal.returns
returns c = λ s j runs. in_program_order s j runs.well runs.enough
