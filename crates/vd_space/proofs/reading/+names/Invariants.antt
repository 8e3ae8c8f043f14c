use Rattle.std.proofs.Common.{◌≡◌, ◌+◌, ◌*◌, drop}
use Rattle.vd_constraints.specs.declared.labels.Labels.{Labels}
use Rattle.vd_core.specs.Facts.{count_of, statement_count}
use Rattle.vd_space.specs.Steps.{with_branch}
use Rattle.vd_space.proofs.reading.+names.Given as goal

abbrev pub decreases-name_block : goal.decreases-name_block
decreases-name_block l = 2 * statement_count l.body.now + 1

abbrev pub decreases-name_stmt : goal.decreases-name_stmt
decreases-name_stmt l = 2 * count_of l.stmt.now

-- what is left leads to what is wanted
abbrev pub invariant-name_block-loop-stmt : goal.invariant-name_block-loop-stmt
invariant-name_block-loop-stmt l = (labels : Labels) → with_branch l.guard labels (drop l.stmt-index l.body) ≡ with_branch l.initial.guard labels l.body
