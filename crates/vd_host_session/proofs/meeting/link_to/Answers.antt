use Rattle.std.proofs.Common.{arith}
use Rattle.vd_host_session.proofs.Refusals.{gets_by_connect}
use Rattle.vd_host_session.proofs.meeting.link_to.Goals as goal

pub returns-else-task-place : goal.returns-else-task-place
returns-else-task-place g c = gets_by_connect c.args.task.now c.args.first c.args.place c.address_at.result.now _ _ _ (omega arith) c.address_at.ensures c.connect.ensures
