use Rattle.std.proofs.Common.{◌||◌, not, sym, ap, ◌∙◌, length, arith}
use Rattle.vd_space.specs.Validity.{takes_part, is_told}
use Rattle.vd_space.proofs.Loops.{host_passed}
use Rattle.vd_space.proofs.validity.is_guard_told.Goals as goal

pub loop-host-preserved : goal.loop-host-preserved
loop-host-preserved c =
    let problem = c.args.problem.now in
    let prefix = c.args.prefix.now in
    let guard = c.args.guard.now in
    let same = ap length c.as_slice.ensures in
    sym (host_passed (λ h. not (takes_part problem prefix guard h) || is_told problem prefix h guard.slot) c.loop-host.host (length problem.hosts) (omega (arith, same)) (sym c.is_guard_told_to.ensures ∙ c.if-not-is_guard_told_to.false)) ∙ c.loop-host.invariant
