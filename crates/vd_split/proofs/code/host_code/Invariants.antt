use Rattle.std.proofs.Common.{◌≡◌, ◌++◌, drop}
use Rattle.vd_execution.specs.Text.{pick}
use Rattle.vd_split.proofs.code.host_code.Given as goal

abbrev pub invariant-loop-line : goal.invariant-loop-line
invariant-loop-line l = l.code ++ pick l.host.0 (drop l.line-index l.lines) ≡ pick l.host.0 l.lines
