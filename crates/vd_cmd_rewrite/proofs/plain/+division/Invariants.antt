use Rattle.std.proofs.Common.{◌≡◌, drop}
use Rattle.vd_cmd_rewrite.specs.Plain.{some_division}
use Rattle.vd_cmd_rewrite.proofs.plain.+division.Given as goal

abbrev pub invariant-some_division-loop-stmt : goal.invariant-some_division-loop-stmt
invariant-some_division-loop-stmt l = some_division (drop l.stmt-index l.body) ≡ some_division l.body
