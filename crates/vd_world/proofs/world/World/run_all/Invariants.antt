use Rattle.std.proofs.Common.{◌≡◌, length}
use Rattle.vd_world.specs.Hosts.{world_of, supply_of, steps_left, Reaches}
use Rattle.vd_world.proofs.world.World.run_all.Given as goal

abbrev pub invariant-loop-moved : goal.invariant-loop-moved
invariant-loop-moved l = record {
  supply : supply_of l.self ≡ supply_of l.initial.self;
  len : length l.self ≡ length l.initial.self;
  reached : Reaches (supply_of l.initial.self) (world_of l.initial.self) (world_of l.self);
}

abbrev pub decreases-loop-moved : goal.decreases-loop-moved
decreases-loop-moved l = steps_left l.self
