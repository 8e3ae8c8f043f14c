use Rattle.std.proofs.Common.{◌≡◌, ◌+◌, drop}
use Rattle.vd_core.specs.Facts.{statement_count}
use Rattle.vd_rewrite.proofs.limits.+count.Given as goal

abbrev pub invariant-after_statements-loop-stmt : goal.invariant-after_statements-loop-stmt
invariant-after_statements-loop-stmt l = l.left + statement_count l.body ≡ l.room + statement_count (drop l.stmt-index l.body)
