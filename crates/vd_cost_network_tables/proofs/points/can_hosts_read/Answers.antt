use Rattle.std.proofs.Common.{◌||◌, not, sym, ap, ◌∙◌, length, arith}
use Rattle.vd_space.specs.Validity.{holds_at, may_read}
use Rattle.vd_space.proofs.Front.{host_passed}
use Rattle.vd_cost_network_tables.proofs.points.can_hosts_read.Goals as goal

pub loop-host-preserved : goal.loop-host-preserved
loop-host-preserved c =
    let problem = c.args.problem.now in
    let same = ap length c.as_slice.ensures in
    sym (host_passed (λ h. not (holds_at problem h c.args.place) || may_read problem h c.args.index.0) c.loop-host.host (length problem.hosts) (omega (arith, same)) (sym c.can_host_read.ensures ∙ c.if-not-can_host_read.false)) ∙ c.loop-host.invariant
