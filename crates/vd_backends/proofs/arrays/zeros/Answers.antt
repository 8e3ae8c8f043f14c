use Rattle.vd_backends.proofs.Cells.{zeros_known, zeros_room, zeros_turn, zeros_end, zeros_hosts}
use Rattle.vd_backends.proofs.arrays.zeros.Goals as goal

pub reserve-at-requires-clause-known : goal.reserve-at-requires-clause-known
reserve-at-requires-clause-known c =
    zeros_known c.args.size c.args.hosts.now c.loop-host.host-index _ c.loop-host-test.true c.loop-host.parts c.args.to.now c.loop-host.to c.loop-host.invariant

pub reserve-at-requires-clause-room : goal.reserve-at-requires-clause-room
reserve-at-requires-clause-room c =
    zeros_room c.args.size c.args.hosts.now c.loop-host.host-index _ c.loop-host-test.true c.loop-host.parts c.args.to.now c.loop-host.to c.loop-host.invariant c.requires.room

pub loop-host-preserved : goal.loop-host-preserved
loop-host-preserved c =
    zeros_turn c.args.size c.args.hosts.now c.loop-host.host-index _ c.loop-host-test.true c.loop-host.parts c.args.to.now c.loop-host.to c.loop-host.invariant
    c.push.new.self c.reserve-at.new.self c.add.new.self c.reserve-at.result c.reserve-at.ensures (c.in_ok-add.ensures {u = tt}) (c.in_ok-push.ensures {u = tt}).ok

pub returns-clause-exact : goal.returns-clause-exact
returns-clause-exact c =
    zeros_end c.args.size c.args.hosts.now c.loop-host.host-index c.loop-host.parts c.args.to.now c.loop-host.to c.loop-host-test.false c.loop-host.invariant

pub returns-clause-hosts : goal.returns-clause-hosts
returns-clause-hosts c =
    zeros_hosts c.args.size c.args.hosts.now c.loop-host.host-index c.loop-host.parts c.args.to.now c.loop-host.to c.loop-host-test.false c.loop-host.invariant
