use Rattle.std.proofs.Common.{◌≡◌, ◌+◌, ◌≤◌, drop}
use Rattle.vd_rewrite.specs.Limits.{weight_at}
use Rattle.vd_rewrite.proofs.limits.+weight.Given as goal

abbrev pub invariant-after_weights-loop-stmt : goal.invariant-after_weights-loop-stmt
invariant-after_weights-loop-stmt l = (l.left + weight_at l.body l.around ≡ l.room + weight_at (drop l.stmt-index l.body) l.around) × (l.left ≤ l.room)
