use Rattle.std.proofs.Common.{arith}
use Rattle.vd_world.proofs.Starting.{of_machines}
use Rattle.vd_world.proofs.world.World.start.Goals as goal

pub invariant_of-result : goal.invariant_of-result
invariant_of-result c =
    let many = c.in_ok-words.ensures.exact in
    (of_machines c.args.machines.items c.in_ok-hosts.hosts.items c.in_ok-hosts.ensures c.requires, omega (arith, many))
