use Rattle.std.proofs.Common.{◌≡◌, replicate, pos}
use Rattle.vd_space_tables.proofs.space_terms.sums.zeros.Given as goal

abbrev pub invariant-loop : goal.invariant-loop
invariant-loop l = l.rows.items ≡ replicate l.counter (replicate l.places (pos 0))
