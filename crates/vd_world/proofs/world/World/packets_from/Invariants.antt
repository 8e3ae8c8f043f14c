use Rattle.std.proofs.Common.{◌≡◌, length, map}
use Rattle.std.specs.List.{range_with_len, sum}
use Rattle.vd_world.specs.Hosts.{world_of}
use Rattle.vd_world.specs.Packets.{counted}
use Rattle.vd_world.proofs.world.World.packets_from.Given as goal

abbrev pub invariant-loop-to : goal.invariant-loop-to
invariant-loop-to l = l.packets ≡ counted (sum (map (λ p. length ((world_of l.self l.fn.from).sent p)) (range_with_len 0 l.to)))
