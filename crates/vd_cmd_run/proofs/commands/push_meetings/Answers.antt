use Rattle.vd_cmd_run.proofs.Lists.{meetings_more}
use Rattle.vd_cmd_run.proofs.commands.push_meetings.Goals as goal

pub loop-peer-preserved : goal.loop-peer-preserved
loop-peer-preserved c = meetings_more c.args.port c.args.me c.loop-peer.peer _ c.loop-peer.words _ c.loop-peer.invariant (c.in_ok-push_meeting.ensures {u = tt})
