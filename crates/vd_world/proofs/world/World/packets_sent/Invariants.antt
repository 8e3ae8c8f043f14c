use Rattle.std.proofs.Common.{◌≡◌, length, map}
use Rattle.std.specs.List.{range_with_len, sum}
use Rattle.vd_world.specs.Hosts.{world_of}
use Rattle.vd_world.specs.Packets.{counted, sent_by}
use Rattle.vd_world.proofs.world.World.packets_sent.Given as goal

abbrev pub invariant-loop-from : goal.invariant-loop-from
invariant-loop-from l = l.packets ≡ counted (sum (map (sent_by (world_of l.self) (length l.self)) (range_with_len 0 l.from)))
