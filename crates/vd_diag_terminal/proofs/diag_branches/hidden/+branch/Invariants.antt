use Rattle.std.proofs.Common.{◌≡◌, drop}
use Rattle.vd_rewrite.specs.Rewriting.{marked}
use Rattle.vd_diag_terminal.specs.Barriers.{first_branch}
use Rattle.vd_diag_terminal.proofs.diag_branches.hidden.+branch.Given as goal

abbrev pub invariant-first_branch-loop-stmt : goal.invariant-first_branch-loop-stmt
invariant-first_branch-loop-stmt l = first_branch (marked l.hidden) (drop l.stmt-index l.body) ≡ first_branch (marked l.hidden) l.body
