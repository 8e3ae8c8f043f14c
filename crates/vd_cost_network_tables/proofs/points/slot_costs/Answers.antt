use Rattle.std.proofs.Common.{ℤ, arith, option_map, ◌∙◌, ◌+ℤ◌, w64}
use Rattle.std.proofs.lemmas.Int.{to_z-of_z}
use Rattle.vd_space.specs.Bounds.{only_if}
use Rattle.vd_space.proofs.Front.{few_slice}
use Rattle.vd_space_prefix.proofs.Front.{grows}
use Rattle.vd_space.specs.Arcs.{parts}
use Rattle.vd_cost_network_tables.specs.Tables.{own_value}
use Rattle.vd_cost_network_tables.proofs.points.slot_costs.Goals as goal

pub loop-place-preserved : goal.loop-place-preserved
loop-place-preserved c =
    let amount = to_z-of_z w64 c.amount_at.result (record { sfits = c.amount_at.type_inv }) ∙ c.amount_at.ensures in
    grows (own_value c.args.problem.now c.args.slot c.args.values.now c.args.amounts.now) c.loop-place.place c.loop-place.costs c.push.new.self c.own_cost.result c.loop-place.invariant
    (c.own_cost.ensures ∙ (λ i. option_map (λ z. z +ℤ amount i) (only_if (c.can_read_indexes-readable.ensures i) (parts (c.value_at.ensures i))))) c.in_ok-push.ensures.ok

pub overflow_cast-place : goal.overflow_cast-place
overflow_cast-place c = let few = few_slice c.args.problem.now c.requires.list.labelled c.args.list.now c.requires.list.all in omega (arith, few)
