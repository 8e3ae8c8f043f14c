use Rattle.std.proofs.Common.{◌≡◌, ◌<◌, ◌≤◌, false, length, subst, ◌∙◌, arith}
use Rattle.vd_execution.specs.World.{step, left}
use Rattle.vd_world.specs.Hosts.{world_of, supply_of, is_step, Reaches}
use Rattle.vd_world.proofs.Quieter.{cannot_step}
use Rattle.vd_world.proofs.Rounds.{reach_trans, round_goes, round_stuck}
use Rattle.vd_world.proofs.world.World.round.Goals as goal

pub loop-at-preserved : goal.loop-at-preserved
loop-at-preserved c =
    let s = supply_of c.args.self.now in
    let n = length c.args.self.now in
    let w = world_of c.loop-at.self in
    let v = world_of c.run_out_at.new.self in
    let same = c.loop-at.invariant.supply in
    let many = c.loop-at.invariant.len in
    let went = c.in_ok-went.ensures in
    record {
      supply = c.run_out_at.ensures.supply ∙ same;
      len = c.run_out_at.ensures.hosts ∙ many;
      so_far = round_goes s n (world_of c.args.self.now) w v c.loop-at.moved c.in_ok-went.went c.either-moved.result c.loop-at.at c.loop-at.invariant.so_far
          (subst (λ x. Reaches x w v) same c.run_out_at.ensures.reached)
          (λ q. subst (λ k. left k v < left n w) (c.run_out_at.ensures.hosts ∙ many) (subst (λ k. left (length c.run_out_at.new.self) v < left k w) many (went.falls q)))
          went.still
          (λ q. cannot_step s c.loop-at.at w (subst (λ x. is_step (step x c.loop-at.at w) ≡ false) same (went.stuck q)))
          c.either-moved.ensures;
    }

pub returns-in_err-went-clause-reached : goal.returns-in_err-went-clause-reached
returns-in_err-went-clause-reached c =
    let w = world_of c.loop-at.self in
    let v = world_of c.run_out_at.new.self in
    reach_trans (supply_of c.args.self.now) (world_of c.args.self.now) w v c.loop-at.invariant.so_far.reached (subst (λ x. Reaches x w v) c.loop-at.invariant.supply c.run_out_at.ensures.reached)

pub returns-clause-stuck : goal.returns-clause-stuck
returns-clause-stuck c = λ e.
    let n = length c.args.self.now in
    let all = c.loop-at.invariant.len in
    let len : length c.loop-at.self ≤ c.loop-at.at = omega (arith, all, c.count-count.ensures, c.loop-at-test.false) in
    round_stuck (supply_of c.args.self.now) n (world_of c.args.self.now) c.loop-at.moved c.loop-at.at c.loop-at.self c.loop-at.invariant.so_far c.loop-at.invariant.supply len e
