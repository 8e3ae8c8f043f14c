use Rattle.std.proofs.Common.{◌≡◌, ◌*◌, drop}
use Rattle.vd_duet.specs.Builder.{TakesAtMost}
use Rattle.vd_duet.specs.Calls.{called, in_clear}
use Rattle.vd_duet.specs.Laws.{AreKnown}
use Rattle.vd_clear.specs.Copies.{each_made}
use Rattle.vd_clear.proofs.Loops.{behind}
use Rattle.vd_clear.proofs.each.each_host.Given as goal

abbrev pub invariant-loop-host : goal.invariant-loop-host
invariant-loop-host g l =
    (behind (in_clear l.parts) (each_made (g.S.Step.made l.step) (drop l.host-index l.hosts) l.to.next) l.to
    ≡ called (each_made (g.S.Step.made l.step) l.hosts l.initial.to.next) l.initial.to)
    × TakesAtMost (8 * l.host-index) l.initial.to.next l.to.next
    × AreKnown (drop l.host-index l.hosts) l.initial.to.next
