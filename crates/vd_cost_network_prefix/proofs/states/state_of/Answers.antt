use Rattle.std.proofs.Common.{None}
use Rattle.vd_space_prefix.proofs.Front.{found, missing}
use Rattle.vd_cost_network_prefix.specs.States.{guard_state}
use Rattle.vd_cost_network_prefix.proofs.states.state_of.Goals as goal

pub returns-in-Some : goal.returns-in-Some
returns-in-Some c =
    let lookup = c.in-Some.ensures.lookup in
    found (guard_state c.args.problem.now c.args.prefix.now c.args.switch.now) c.args.problem.now.guards c.as_slice.result.now c.as_slice.ensures c.args.switch.now.guard None c.in-Some.guard.now c.guard_state.result lookup.0 lookup.1 c.guard_state.ensures

pub returns-in-None : goal.returns-in-None
returns-in-None c = missing (guard_state c.args.problem.now c.args.prefix.now c.args.switch.now) c.args.problem.now.guards c.as_slice.result.now c.as_slice.ensures c.args.switch.now.guard None c.in-None.ensures.lookup.3
