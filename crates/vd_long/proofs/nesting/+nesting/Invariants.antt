use Rattle.std.proofs.Common.{◌≡◌, nat_le, drop}
use Rattle.vd_core.specs.Facts.{nesting}
use Rattle.vd_long.proofs.nesting.+nesting.Given as goal

abbrev pub invariant-nest_within-loop-stmt : goal.invariant-nest_within-loop-stmt
invariant-nest_within-loop-stmt l = nat_le (nesting (drop l.stmt-index l.body)) l.most ≡ nat_le (nesting l.body) l.most
