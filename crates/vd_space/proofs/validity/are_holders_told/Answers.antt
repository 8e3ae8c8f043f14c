use Rattle.std.proofs.Common.{sym, ap, ◌∙◌, length, arith}
use Rattle.vd_space.specs.Validity.{holder_told}
use Rattle.vd_space.proofs.Loops.{host_passed}
use Rattle.vd_space.proofs.validity.are_holders_told.Goals as goal

pub loop-host-preserved : goal.loop-host-preserved
loop-host-preserved c =
    let problem = c.args.problem.now in
    let same = ap length c.as_slice.ensures in
    sym (host_passed (holder_told problem c.args.prefix.now c.args.slot c.args.place) c.loop-host.host (length problem.hosts) (omega (arith, same)) (sym c.is_holder_told.ensures ∙ c.if-not-is_holder_told.false)) ∙ c.loop-host.invariant
