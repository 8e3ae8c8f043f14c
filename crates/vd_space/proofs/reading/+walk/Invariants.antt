use Rattle.std.proofs.Common.{◌≡◌, ◌+◌, ◌*◌, drop}
use Rattle.vd_core.specs.Facts.{count_of, statement_count}
use Rattle.vd_space.specs.Steps.{with_block}
use Rattle.vd_space.proofs.reading.+walk.Given as goal

abbrev pub decreases-add_block : goal.decreases-add_block
decreases-add_block l = 2 * statement_count l.body.now + 1

abbrev pub decreases-add_stmt : goal.decreases-add_stmt
decreases-add_stmt l = 2 * count_of l.stmt.now

-- what is left leads to what is wanted
abbrev pub invariant-add_block-loop-stmt : goal.invariant-add_block-loop-stmt
invariant-add_block-loop-stmt l = with_block l.problem l.labels l.weight (drop l.stmt-index l.body) ≡ with_block l.initial.problem l.labels l.weight l.body
