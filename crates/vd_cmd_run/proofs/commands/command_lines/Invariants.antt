use Rattle.std.proofs.Common.{◌≡◌, map}
use Rattle.std.specs.List.{range_with_len}
use Rattle.vd_cmd_run.specs.CommandLines.{host_words}
use Rattle.vd_cmd_run.proofs.commands.command_lines.Given as goal

abbrev pub invariant-loop-me : goal.invariant-loop-me
invariant-loop-me l = l.lines ≡ map (host_words l.prefix l.inputs l.port l.hosts) (range_with_len 0 l.me)
