use Rattle.std.proofs.Common.{◌≡◌, take}
use Rattle.vd_space_api.specs.Rows.{emptied_of}
use Rattle.vd_space_api.proofs.space_shifts.rows.emptied.Given as goal

abbrev pub invariant-loop-term : goal.invariant-loop-term
invariant-loop-term l = l.emptied ≡ emptied_of (take l.term-index l.row)
