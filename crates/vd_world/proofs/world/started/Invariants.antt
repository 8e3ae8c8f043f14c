use Rattle.std.proofs.Common.{◌≡◌, map}
use Rattle.vd_world.specs.Hosts.{host_at_start}
use Rattle.vd_world.proofs.world.started.Given as goal

abbrev pub invariant-loop-machine : goal.invariant-loop-machine
invariant-loop-machine l = l.hosts.items ≡ map host_at_start l.yielded
