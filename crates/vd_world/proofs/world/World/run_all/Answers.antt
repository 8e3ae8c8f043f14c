use Rattle.std.proofs.Common.{subst, length, ◌∙◌}
use Rattle.vd_execution.specs.World.{IsStuck}
use Rattle.vd_world.specs.Hosts.{world_of, supply_of, Reaches}
use Rattle.vd_world.proofs.Rounds.{reach_trans, all_are, ended_past}
use Rattle.vd_world.proofs.world.World.run_all.Goals as goal

pub returns-in_err-moved-clause-reached : goal.returns-in_err-moved-clause-reached
returns-in_err-moved-clause-reached c =
    let s = supply_of c.args.self.now in
    let w = world_of c.loop-moved.self in
    let v = world_of c.round.new.self in
    reach_trans s (world_of c.args.self.now) w v c.loop-moved.invariant.reached (subst (λ x. Reaches x w v) c.loop-moved.invariant.supply c.round.ensures.reached)

pub returns-then-not-moved-clause-all : goal.returns-then-not-moved-clause-all
returns-then-not-moved-clause-all c =
    let s = supply_of c.args.self.now in
    let w = world_of c.loop-moved.self in
    let v = world_of c.round.new.self in
    all_are s (length c.args.self.now) (world_of c.args.self.now) v (ended_past c.args.self.now)
    (reach_trans s (world_of c.args.self.now) w v c.loop-moved.invariant.reached (subst (λ x. Reaches x w v) c.loop-moved.invariant.supply c.round.ensures.reached))
    (subst (λ x. IsStuck x v) c.loop-moved.invariant.supply (c.in_ok-moved.ensures.stuck c.if-not-moved.true))

pub returns-then-not-moved-clause-reached : goal.returns-then-not-moved-clause-reached
returns-then-not-moved-clause-reached c =
    let s = supply_of c.args.self.now in
    let w = world_of c.loop-moved.self in
    let v = world_of c.round.new.self in
    reach_trans s (world_of c.args.self.now) w v c.loop-moved.invariant.reached (subst (λ x. Reaches x w v) c.loop-moved.invariant.supply c.round.ensures.reached)

pub loop-moved-preserved : goal.loop-moved-preserved
loop-moved-preserved c =
    let s = supply_of c.args.self.now in
    let w = world_of c.loop-moved.self in
    let v = world_of c.round.new.self in
    record {
      supply = c.round.ensures.supply ∙ c.loop-moved.invariant.supply;
      len = c.round.ensures.hosts ∙ c.loop-moved.invariant.len;
      reached = reach_trans s (world_of c.args.self.now) w v c.loop-moved.invariant.reached (subst (λ x. Reaches x w v) c.loop-moved.invariant.supply c.round.ensures.reached);
    }
