use Rattle.std.proofs.Common.{◌≡◌, drop}
use Rattle.vd_core.specs.Facts.{all_meet}
use Rattle.vd_core.specs.Numbers.{numbers_fit}
use Rattle.vd_core.proofs.numbers.+numbers.Given as goal

abbrev pub invariant-block_fits-loop-stmt : goal.invariant-block_fits-loop-stmt
invariant-block_fits-loop-stmt l = all_meet numbers_fit (drop l.stmt-index l.body) ≡ all_meet numbers_fit l.body
