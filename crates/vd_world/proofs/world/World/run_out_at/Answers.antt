use Rattle.std.proofs.Common.{◌≡◌, List, subst, sym, ap₂, ◌∙◌, arith}
use Rattle.vd_execution.specs.World.{step, left}
use Rattle.vd_world.specs.Hosts.{HostKept, world_of, supply_of, is_step, steps_left, Reaches}
use Rattle.vd_world.proofs.Rounds.{reach_trans}
use Rattle.vd_world.proofs.world.World.run_out_at.Goals as goal

-- what is reached behind what was reached
further : (hosts mid later : List HostKept) → supply_of mid ≡ supply_of hosts → Reaches (supply_of hosts) (world_of hosts) (world_of mid) → Reaches (supply_of mid) (world_of mid) (world_of later)
    → Reaches (supply_of hosts) (world_of hosts) (world_of later)
further hosts mid later same before behind =
    reach_trans (supply_of hosts) (world_of hosts) (world_of mid) (world_of later) before (subst (λ s. Reaches s (world_of mid) (world_of later)) same behind)

pub returns-in_err-more-clause-reached : goal.returns-in_err-more-clause-reached
returns-in_err-more-clause-reached c = further c.args.self.now c.loop-more.self c.go_on_at.new.self c.loop-more.invariant.supply c.loop-more.invariant.reached c.go_on_at.ensures.reached

pub returns-then-not-more-clause-reached : goal.returns-then-not-more-clause-reached
returns-then-not-more-clause-reached c = further c.args.self.now c.loop-more.self c.go_on_at.new.self c.loop-more.invariant.supply c.loop-more.invariant.reached c.go_on_at.ensures.reached

pub returns-then-not-more-clause-falls : goal.returns-then-not-more-clause-falls
returns-then-not-more-clause-falls c = λ e.
    let fell = c.loop-more.invariant.falls e in
    let same : steps_left c.go_on_at.new.self ≡ steps_left c.loop-more.self = ap₂ left c.go_on_at.ensures.hosts (c.in_ok-more.ensures.still c.if-not-more.true) in
    omega (arith, fell, same)

pub returns-then-not-more-clause-still : goal.returns-then-not-more-clause-still
returns-then-not-more-clause-still c = λ e. c.in_ok-more.ensures.still c.if-not-more.true ∙ c.loop-more.invariant.still e

pub returns-then-not-more-clause-stuck : goal.returns-then-not-more-clause-stuck
returns-then-not-more-clause-stuck c = λ e.
    ap₂ (λ s w. is_step (step s c.args.at w)) (sym c.loop-more.invariant.supply) (sym (c.loop-more.invariant.still e)) ∙ c.in_ok-more.ensures.stuck c.if-not-more.true

pub loop-more-preserved : goal.loop-more-preserved
loop-more-preserved c =
    let fell = c.in_ok-more.ensures.falls c.if-not-more.false in
    let most = c.loop-more.invariant.no_more in
    record {
      supply = c.go_on_at.ensures.supply ∙ c.loop-more.invariant.supply;
      len = c.go_on_at.ensures.hosts ∙ c.loop-more.invariant.len;
      reached = further c.args.self.now c.loop-more.self c.go_on_at.new.self c.loop-more.invariant.supply c.loop-more.invariant.reached c.go_on_at.ensures.reached;
      no_more = omega (arith, fell, most);
      falls = λ e. omega (arith, fell, most);
      still = λ e. absurd cc;
    }
