use Rattle.std.proofs.Common.{take}
use Rattle.vd_space_prefix.specs.Tables.{AreSumsOf}
use Rattle.vd_space_api.proofs.high.high_bound.Given as goal

abbrev pub invariant-loop-slot : goal.invariant-loop-slot
invariant-loop-slot l = AreSumsOf l.problem l.tables.shifts (take l.slot l.prefix) l.sums
