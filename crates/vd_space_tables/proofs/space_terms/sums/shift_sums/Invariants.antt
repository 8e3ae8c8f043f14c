use Rattle.std.proofs.Common.{◌≡◌, take}
use Rattle.vd_space_tables.specs.Sums.{AreSmallShifts, sums_of}
use Rattle.vd_space_tables.proofs.space_terms.sums.shift_sums.Given as goal

abbrev pub invariant-loop-shift : goal.invariant-loop-shift
invariant-loop-shift g l = record {
  sums : l.sums.items ≡ sums_of g.T.HasEnds.ends l.items l.rows l.count l.places (take l.shift-index l.shifts);
  small : AreSmallShifts (take l.shift-index l.shifts);
}
