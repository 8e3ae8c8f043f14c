use Rattle.std.proofs.Common.{None, refl, ◌∙◌}
use Rattle.vd_space_prefix.proofs.Front.{found, missing}
use Rattle.vd_cost_network_prefix.specs.States.{table_state}
use Rattle.vd_cost_network_prefix.proofs.states.switch_state.Goals as goal

pub returns-in-Some : goal.returns-in-Some
returns-in-Some c =
    let lookup = c.in-Some.ensures.lookup in
    found (table_state c.args.problem.now c.args.prefix.now) c.args.tables.now c.args.tables.now refl c.args.number None c.in-Some.switch.now c.state_of.result lookup.0 lookup.1 c.state_of.ensures
    ∙ c.requires.switches c.args.prefix.now c.args.number

pub returns-in-None : goal.returns-in-None
returns-in-None c =
    missing (table_state c.args.problem.now c.args.prefix.now) c.args.tables.now c.args.tables.now refl c.args.number None c.in-None.ensures.lookup.3
    ∙ c.requires.switches c.args.prefix.now c.args.number
