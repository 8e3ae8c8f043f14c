use Rattle.vd_reorder.proofs.Enough.{enough, careful_enough}
use Rattle.vd_reorder.proofs.reorder_buffers.room_for_the_window_is_enough.Goals as goal

pub returns-clause-window : goal.returns-clause-window
returns-clause-window c = enough

pub returns-clause-careful : goal.returns-clause-careful
returns-clause-careful c = careful_enough
