use Rattle.std.proofs.Common.{◌≡◌, ◌+◌, length}
use Rattle.std.specs.Prelude.{slice_index_or}
use Rattle.vd_space_prefix.specs.declared.tables.Sums.{Sums}
use Rattle.vd_space_prefix.proofs.path.first_sums.Given as goal

abbrev pub invariant-loop : goal.invariant-loop
invariant-loop l = record {
  room : length l.sums ≡ l.counter + 1;
  first : (default : Sums) → slice_index_or l.sums 0 default ≡ l.start;
}
