use Rattle.std.proofs.Common.{◌≡◌, ◌++◌, drop}
use Rattle.vd_space.specs.Growth.{index_names}
use Rattle.vd_space_prefix.specs.Naming.{numbers_from}
use Rattle.vd_space_prefix.proofs.numbers.numbers_of_indexes.Given as goal

abbrev pub invariant-loop-number : goal.invariant-loop-number
invariant-loop-number l = l.numbers ++ numbers_from (index_names l.slot) l.number (drop l.number l.indexes) ≡ numbers_from (index_names l.slot) 0 l.indexes
