use Rattle.std.proofs.Common.{◌≡◌}
use Rattle.vd_cmd_depends.specs.Influencing.{lacked}
use Rattle.vd_cmd_depends.proofs.line.lacked.Given as goal

abbrev pub invariant-loop-place : goal.invariant-loop-place
invariant-loop-place l = l.list ≡ lacked l.place l.all l.direct
