use Rattle.std.proofs.Common.{◌≡◌, [], ◌∷◌, true, List, Option, ℤ, subst, w64, ◌∙◌}
use Rattle.std.specs.Prelude.{IfOk}
use Rattle.std.proofs.lemmas.Int.{to_z-of_z}
use Rattle.vd_cost_network_prefix.specs.declared.made.PointTable.{PointTable}
use Rattle.vd_cost_network_tables.specs.Tables.{table_of_values}
use Rattle.vd_cost_network_tables.proofs.Owning.{switch_values_are}
use Rattle.vd_cost_network_tables.proofs.points.table_of_switch.Goals as goal

pub returns : goal.returns
returns c =
    let first = to_z-of_z w64 c.amount_at.result (record { sfits = c.amount_at.type_inv }) ∙ c.amount_at.ensures in
    let second = to_z-of_z w64 c.amount_at-2.result (record { sfits = c.amount_at-2.type_inv }) ∙ c.amount_at-2.ensures in
    subst (λ (values : List (Option ℤ)). IfOk c.point_table.result (λ (table : PointTable). table ≡ table_of_values (true ∷ true ∷ []) values))
    (switch_values_are c.args.problem.now c.args.guard.now c.args.host c.can_read-readable.result c.args.amounts.now _ _ c.own_cost-off.result c.own_cost-on.result c.can_read-readable.ensures first second c.own_cost-off.ensures c.own_cost-on.ensures)
    c.point_table.ensures
