use Rattle.std.proofs.Common.{◌≡◌, ◌<◌, ◌≤◌, true, false, length}
use Rattle.vd_world.specs.Hosts.{world_of, supply_of, steps_left, Reaches}
use Rattle.vd_world.proofs.world.World.run_out_at.Given as goal

abbrev pub invariant-loop-more : goal.invariant-loop-more
invariant-loop-more l = record {
  supply : supply_of l.self ≡ supply_of l.initial.self;
  len : length l.self ≡ length l.initial.self;
  reached : Reaches (supply_of l.initial.self) (world_of l.initial.self) (world_of l.self);
  no_more : steps_left l.self ≤ steps_left l.initial.self;
  falls : l.went ≡ true → steps_left l.self < steps_left l.initial.self;
  still : l.went ≡ false → world_of l.self ≡ world_of l.initial.self;
}

abbrev pub decreases-loop-more : goal.decreases-loop-more
decreases-loop-more l = steps_left l.self
