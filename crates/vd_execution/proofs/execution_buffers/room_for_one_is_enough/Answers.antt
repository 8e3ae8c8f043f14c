use Rattle.vd_execution.proofs.Enough.{enough}
use Rattle.vd_execution.proofs.execution_buffers.room_for_one_is_enough.Goals as goal

pub returns : goal.returns
returns c = enough
