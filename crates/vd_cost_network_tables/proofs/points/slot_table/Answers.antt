use Rattle.std.proofs.Common.{◌≡◌, List, Option, ℤ, ◌∙◌, subst}
use Rattle.std.specs.Prelude.{IfOk}
use Rattle.vd_cost_network_prefix.specs.declared.made.PointTable.{PointTable}
use Rattle.vd_cost_network_tables.specs.Tables.{table_of_values}
use Rattle.vd_cost_network_tables.proofs.Owning.{own_is}
use Rattle.vd_cost_network_tables.proofs.Pointing.{values_within}
use Rattle.vd_cost_network_tables.proofs.points.slot_table.Goals as goal

pub slot_costs-requires-clause-values : goal.slot_costs-requires-clause-values
slot_costs-requires-clause-values c p =
    values_within c.args.problem.now c.requires.list.labelled c.requires.limits c.args.slot c.args.list.now c.as_slice.result.now (c.as_slice.ensures ∙ c.in_ok-values.ensures) p

pub returns : goal.returns
returns c =
    subst (λ (costs : List (Option ℤ)). IfOk c.point_table.result (λ (table : PointTable). table ≡ table_of_values c.args.tests.now costs))
    (c.as_slice-2.ensures ∙ c.in_ok-costs.ensures ∙ own_is c.args.problem.now c.args.slot c.args.list.now c.as_slice.result.now c.args.amounts.now c.requires.list.all (c.as_slice.ensures ∙ c.in_ok-values.ensures))
    c.point_table.ensures
