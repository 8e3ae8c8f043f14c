use Rattle.std.proofs.Common.{sym, ◌∙◌}
use Rattle.vd_execution.specs.World.{step}
use Rattle.vd_world.specs.Hosts.{world_of, supply_of}
use Rattle.vd_world.proofs.Quieter.{gone_on, waited}
use Rattle.vd_world.proofs.Rounds.{reach_on, reach_refl}
use Rattle.vd_world.proofs.world.World.go_on_at.Goals as goal

pub returns-then-not-stepped-clause-reached : goal.returns-then-not-stepped-clause-reached
returns-then-not-stepped-clause-reached c =
    let hosts = c.args.self.now in
    let s = supply_of hosts in
    let w = world_of hosts in
    reach_on s c.args.at w w (world_of c.step_at.new.self) (reach_refl s w) c.in_ok-stepped.ensures.world

pub returns-then-not-stepped-clause-still : goal.returns-then-not-stepped-clause-still
returns-then-not-stepped-clause-still c = λ e.
    let hosts = c.args.self.now in
    waited (step (supply_of hosts) c.args.at (world_of hosts)) (world_of hosts) (world_of c.step_at.new.self) (sym c.in_ok-stepped.ensures.moved ∙ c.if-not-stepped.true) c.in_ok-stepped.ensures.world

pub returns-then-not-stepped-clause-stuck : goal.returns-then-not-stepped-clause-stuck
returns-then-not-stepped-clause-stuck c = λ e. sym c.in_ok-stepped.ensures.moved ∙ c.if-not-stepped.true

pub returns-clause-reached : goal.returns-clause-reached
returns-clause-reached c =
    (gone_on c.args.at c.args.self.now c.step_at.new.self c.run_at.new.self c.step_at.ensures.supply c.step_at.ensures.hosts c.run_at.ensures.hosts
    c.in_ok-stepped.ensures.world (sym c.in_ok-stepped.ensures.moved ∙ c.if-not-stepped.false) c.run_at.ensures.reached c.run_at.ensures.no_more).reached

pub returns-clause-falls : goal.returns-clause-falls
returns-clause-falls c = λ e.
    (gone_on c.args.at c.args.self.now c.step_at.new.self c.run_at.new.self c.step_at.ensures.supply c.step_at.ensures.hosts c.run_at.ensures.hosts
    c.in_ok-stepped.ensures.world (sym c.in_ok-stepped.ensures.moved ∙ c.if-not-stepped.false) c.run_at.ensures.reached c.run_at.ensures.no_more).falls
