use Rattle.std.proofs.Common.{◌≡◌, List, Option, ℤ, ◌∙◌, subst}
use Rattle.std.specs.Prelude.{IfOk}
use Rattle.vd_cost_network_tables.proofs.Front.{values_within}
use Rattle.vd_cost_network_bound.proofs.Owned.{slot_values_are}
use Rattle.vd_cost_network_bound.proofs.values.slot_values.Goals as goal

pub slot_costs-requires-clause-values : goal.slot_costs-requires-clause-values
slot_costs-requires-clause-values c p =
    values_within c.args.problem.now c.requires.list.labelled c.requires.limits c.args.slot c.args.list.now c.as_slice.result.now (c.as_slice.ensures ∙ c.in_ok-values.ensures) p

pub returns : goal.returns
returns c =
    subst (λ (costs : List (Option ℤ)). IfOk c.slot_costs.result (λ (values : List (Option ℤ)). values ≡ costs))
    (slot_values_are c.args.problem.now c.args.slot c.args.list.now c.as_slice.result.now c.requires.slot c.requires.list.all (c.as_slice.ensures ∙ c.in_ok-values.ensures))
    c.slot_costs.ensures
