use Rattle.std.proofs.Common.{◌≡◌, ◌++◌}
use Rattle.vd_cmd_run.specs.CommandLines.{meetings}
use Rattle.vd_cmd_run.proofs.commands.push_meetings.Given as goal

abbrev pub invariant-loop-peer : goal.invariant-loop-peer
invariant-loop-peer l = l.words ≡ l.initial.words ++ meetings l.port l.me l.peer
