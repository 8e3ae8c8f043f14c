use Rattle.std.proofs.Common.{◌≡◌, ◌&&◌, ap, ◌∙◌, arith, nat_lt}
use Rattle.vd_base.specs.HostSets.{has_host, host}
use Rattle.vd_noninter.specs.Reached.{is_marked}
use Rattle.vd_noninter.proofs.Hosts.{none_first, host_step}
use Rattle.vd_noninter.proofs.reached.Reached.hosts.Goals as goal

pub loop-host-init : goal.loop-host-init
loop-host-init c = none_first (is_marked c.args.self.now.hosts)

pub loop-host-preserved : goal.loop-host-preserved
loop-host-preserved c =
    host_step (is_marked c.args.self.now.hosts) (λ k. has_host c.loop-host.set (host k)) (λ k. has_host c.with_host_if-set.result (host k)) c.loop-host.host c.has.result
    (c.has.ensures ∙ ap (is_marked c.args.self.now.hosts) c.from.ensures) c.loop-host.invariant c.with_host_if-set.ensures

pub returns : goal.returns
returns c = λ k.
    let low = c.loop-host-test.false in
    let high = c.loop-host.auto.host-end in
    let all : c.loop-host.host ≡ 8 = omega arith in
    c.loop-host.invariant k ∙ ap (λ n. nat_lt k n && is_marked c.args.self.now.hosts k) all
