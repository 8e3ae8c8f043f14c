use Rattle.std.proofs.Common.{false, refl}
use Rattle.vd_space_prefix.proofs.Front.{found, missing}
use Rattle.vd_cost_network_prefix.specs.Reach.{may_turn}
use Rattle.vd_cost_network_prefix.proofs.reach.may_turn_at.Goals as goal

pub returns-in-Some : goal.returns-in-Some
returns-in-Some c =
    let lookup = c.in-Some.ensures.lookup in
    found (may_turn c.args.problem.now c.args.slot) c.args.switches.now c.args.switches.now refl c.args.number false c.in-Some.switch.now c.may_turn.result lookup.0 lookup.1 c.may_turn.ensures

pub returns-in-None : goal.returns-in-None
returns-in-None c = missing (may_turn c.args.problem.now c.args.slot) c.args.switches.now c.args.switches.now refl c.args.number false c.in-None.ensures.lookup.3
