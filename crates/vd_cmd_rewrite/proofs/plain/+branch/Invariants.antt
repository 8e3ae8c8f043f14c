use Rattle.std.proofs.Common.{◌≡◌, drop}
use Rattle.vd_cmd_rewrite.specs.Plain.{some_branch}
use Rattle.vd_cmd_rewrite.proofs.plain.+branch.Given as goal

abbrev pub invariant-some_branch-loop-stmt : goal.invariant-some_branch-loop-stmt
invariant-some_branch-loop-stmt l = some_branch (drop l.stmt-index l.body) ≡ some_branch l.body
