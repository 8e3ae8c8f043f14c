use Rattle.std.proofs.Common.{◌≡◌, drop}
use Rattle.vd_space.specs.Validity.{index_told}
use Rattle.vd_space_prefix.specs.Naming.{all_at}
use Rattle.vd_space_prefix.proofs.naming.are_indexes_told.Given as goal

abbrev pub invariant-loop-number : goal.invariant-loop-number
invariant-loop-number l = all_at (index_told l.problem l.prefix) l.problem.indexes (drop l.number-index l.numbers) ≡ all_at (index_told l.problem l.prefix) l.problem.indexes l.numbers
