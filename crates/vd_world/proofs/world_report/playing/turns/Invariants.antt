use Rattle.std.proofs.Common.{◌≡◌, drop, length}
use Rattle.vd_execution.specs.World.{run}
use Rattle.vd_world.specs.Hosts.{supply_of, world_of}
use Rattle.vd_world.specs.Schedules.{numbers}
use Rattle.vd_world.proofs.world_report.playing.turns.Given as goal

-- the entries that are left lead where all of them lead from the start
abbrev pub invariant-loop-host : goal.invariant-loop-host
invariant-loop-host l = record {
  supply : supply_of l.world ≡ supply_of l.initial.world;
  hosts : length l.world ≡ length l.initial.world;
  left : run (supply_of l.initial.world) (numbers (drop l.host-index l.entries)) (world_of l.world) ≡ run (supply_of l.initial.world) (numbers l.entries) (world_of l.initial.world);
}
