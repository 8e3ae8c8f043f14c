use Rattle.std.proofs.Common.{◌≡◌, length}
use Rattle.vd_world.specs.Hosts.{world_of, supply_of}
use Rattle.vd_world.proofs.Rounds.{Round}
use Rattle.vd_world.proofs.world.World.round.Given as goal

abbrev pub invariant-loop-at : goal.invariant-loop-at
invariant-loop-at l = record {
  supply : supply_of l.self ≡ supply_of l.initial.self;
  len : length l.self ≡ length l.initial.self;
  so_far : Round (supply_of l.initial.self) (length l.initial.self) (world_of l.initial.self) l.moved l.at (world_of l.self);
}
