use Rattle.std.proofs.lemmas.List.{drop_all}
use Rattle.vd_clear.proofs.Loops.{each_turn, each_ended}
use Rattle.vd_clear.proofs.each.each_host.Goals as goal

pub loop-host-preserved : goal.loop-host-preserved
loop-host-preserved g c =
    each_turn (g.S.Step.made c.args.step.now) c.args.hosts.now c.loop-host.host-index _ c.loop-host.parts c.push.new.self c.args.to.now.next c.loop-host.to _ _ c.at.new.to
    c.loop-host-test.true (c.in_ok-at.ensures {u = tt}).exact (c.in_ok-at.ensures {u = tt}).few (c.in_ok-push.ensures {u = tt}).ok c.loop-host.invariant

pub returns-clause-hosts : goal.returns-clause-hosts
returns-clause-hosts g c =
    each_ended (g.S.Step.made c.args.step.now) c.args.hosts.now c.loop-host.host-index c.loop-host.parts c.args.to.now.next c.loop-host.to c.args.to.now
    (drop_all c.loop-host.host-index c.args.hosts.now c.loop-host-test.false) c.loop-host.invariant
