use Rattle.std.proofs.Common.{sym, ◌∙◌}
use Rattle.vd_base.specs.HostSets.{has_host}
use Rattle.vd_base.proofs.Members.{member_taken, member_left}
use Rattle.vd_base.proofs.protocols.HostSet.members.Goals as goal
use Rattle.vd_base.proofs.protocols.HostSet.members.Goals.{then-has+in_ok-push, else-has}

pub loop-number-preserved : goal.loop-number-preserved
loop-number-preserved c =
    elim c.if-has.branch [
      | then-has+in_ok-push w ↦
          w.hosts-is ∙ w.in_ok-push.ensures.ok
          ∙ member_taken (has_host c.args.self) c.loop-number.number c.loop-number.hosts c.loop-number.invariant (sym c.has.ensures ∙ w.if-has.true)
      | else-has w ↦
          w.hosts-is ∙ member_left (has_host c.args.self) c.loop-number.number c.loop-number.hosts c.loop-number.invariant (sym c.has.ensures ∙ w.if-has.false)
    ]
