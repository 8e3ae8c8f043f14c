use Rattle.vd_distributed.proofs.Serving.{others_send_enough}
use Rattle.vd_distributed.proofs.distributed_progress.others_send_enough.Goals as goal

pub returns : goal.returns
returns c = others_send_enough
