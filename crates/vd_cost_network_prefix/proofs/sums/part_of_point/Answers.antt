use Rattle.std.proofs.Common.{pos, refl, ap, ◌∙◌, w64}
use Rattle.std.proofs.lemmas.Int.{to_z-of_z}
use Rattle.vd_space_prefix.proofs.Front.{found, missing}
use Rattle.vd_cost_network_prefix.specs.declared.made.PointTable.{PointTable}
use Rattle.vd_cost_network_prefix.specs.States.{as_states, point_at}
use Rattle.vd_cost_network_prefix.proofs.sums.part_of_point.Goals as goal

pub returns-in-Some-clause-part : goal.returns-in-Some-clause-part
returns-in-Some-clause-part c =
    let lookup = c.in-Some.ensures.lookup in
    to_z-of_z w64 c.point_cost.result (record { sfits = c.point_cost.type_inv })
    ∙ found (λ (table : PointTable). point_at table (as_states c.args.states.now c.args.point)) c.args.tables.now c.args.tables.now refl c.args.point (pos 0) c.in-Some.table.now c.point_cost.result lookup.0 lookup.1
    (c.point_cost.ensures.cost ∙ ap (point_at c.in-Some.table.now) c.state_at.ensures)

pub returns-in-None-clause-part : goal.returns-in-None-clause-part
returns-in-None-clause-part c =
    missing (λ (table : PointTable). point_at table (as_states c.args.states.now c.args.point)) c.args.tables.now c.args.tables.now refl c.args.point (pos 0) c.in-None.ensures.lookup.3
