use Rattle.std.proofs.Common.{◌≡◌, drop}
use Rattle.vd_duet.specs.Calls.{appended, in_clear}
use Rattle.vd_clear.specs.Copies.{renewed}
use Rattle.vd_clear.proofs.back_ends.renew.Given as goal

abbrev pub invariant-loop-part : goal.invariant-loop-part
invariant-loop-part l = appended (renewed (in_clear (drop l.part-index l.part-items)) (in_clear l.x)) l.to ≡ appended (renewed (in_clear l.kept) (in_clear l.x)) l.initial.to
