use Rattle.std.proofs.Common.{pos, refl, ap₂, ◌∙◌, w64}
use Rattle.std.proofs.lemmas.Int.{to_z-of_z}
use Rattle.vd_space_prefix.proofs.Front.{found, missing}
use Rattle.vd_cost_network_prefix.specs.declared.made.ArcTable.{ArcTable}
use Rattle.vd_cost_network_prefix.specs.States.{as_states, arc_at}
use Rattle.vd_cost_network_prefix.proofs.sums.part_of_arc.Goals as goal

pub returns-in-Some-clause-part : goal.returns-in-Some-clause-part
returns-in-Some-clause-part c =
    let lookup = c.in-Some.ensures.lookup in
    let states = as_states c.args.states.now in
    to_z-of_z w64 c.arc_cost.result (record { sfits = c.arc_cost.type_inv })
    ∙ found (λ (table : ArcTable). arc_at table (states table.first) (states table.second)) c.args.tables.now c.args.tables.now refl c.args.number (pos 0) c.in-Some.table.now c.arc_cost.result lookup.0 lookup.1
    (c.arc_cost.ensures.cost ∙ ap₂ (arc_at c.in-Some.table.now) c.state_at-first.ensures c.state_at-second.ensures)

pub returns-in-None-clause-part : goal.returns-in-None-clause-part
returns-in-None-clause-part c =
    let states = as_states c.args.states.now in
    missing (λ (table : ArcTable). arc_at table (states table.first) (states table.second)) c.args.tables.now c.args.tables.now refl c.args.number (pos 0) c.in-None.ensures.lookup.3
