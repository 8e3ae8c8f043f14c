use Rattle.std.proofs.Common.{◌≡◌, map, take}
use Rattle.vd_cmd_run.specs.EndedLines.{ended_line}
use Rattle.vd_cmd_run.proofs.report.lines.Given as goal

abbrev pub invariant-loop-words : goal.invariant-loop-words
invariant-loop-words l = l.lines ≡ map ended_line (take l.words-index l.printed)
