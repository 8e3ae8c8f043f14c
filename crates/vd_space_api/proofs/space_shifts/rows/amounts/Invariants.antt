use Rattle.std.proofs.Common.{◌≡◌, take}
use Rattle.vd_space_api.specs.Rows.{amounts_of}
use Rattle.vd_space_api.proofs.space_shifts.rows.amounts.Given as goal

abbrev pub invariant-loop-term : goal.invariant-loop-term
invariant-loop-term l = l.amounts ≡ amounts_of (take l.term-index l.row)
