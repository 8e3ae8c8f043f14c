use Rattle.std.proofs.Common.{◌≡◌, drop}
use Rattle.vd_duet.specs.Builder.{TakesAtMost}
use Rattle.vd_duet.specs.Calls.{called, in_clear}
use Rattle.vd_clear.specs.Copies.{told}
use Rattle.vd_clear.proofs.Loops.{behind}
use Rattle.vd_clear.proofs.show.tell.Given as goal

abbrev pub invariant-loop-part : goal.invariant-loop-part
invariant-loop-part l =
    (behind l.all (told (in_clear (drop l.part-index l.part-items)) l.host l.to.next) l.to ≡ called (told (in_clear l.x) l.host l.initial.to.next) l.initial.to)
    × TakesAtMost l.part-index l.initial.to.next l.to.next
