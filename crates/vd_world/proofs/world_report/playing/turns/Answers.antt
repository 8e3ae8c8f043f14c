use Rattle.std.proofs.Common.{◌∙◌}
use Rattle.vd_world.specs.Hosts.{supply_of, world_of}
use Rattle.vd_world.proofs.Runs.{no_turn_left, one_turn}
use Rattle.vd_world.proofs.world_report.playing.turns.Goals as goal

pub loop-host-preserved : goal.loop-host-preserved
loop-host-preserved c = record {
  supply = c.step.ensures.supply ∙ c.loop-host.invariant.supply;
  hosts = c.step.ensures.hosts ∙ c.loop-host.invariant.hosts;
  left = one_turn (supply_of c.args.world.now) (supply_of c.loop-host.world) c.args.entries.now c.loop-host.host-index _ (world_of c.loop-host.world) (world_of c.step.new.self) _
      c.loop-host-test.true c.loop-host.invariant.supply (c.in_ok-step.ensures {u = tt}).world c.loop-host.invariant.left;
}

pub returns-clause-world : goal.returns-clause-world
returns-clause-world c =
    no_turn_left (supply_of c.args.world.now) c.args.entries.now c.loop-host.host-index (world_of c.loop-host.world) _ c.loop-host-test.false c.loop-host.invariant.left
