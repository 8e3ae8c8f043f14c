use Rattle.std.proofs.Common.{ap, ◌∙◌, w64, ◌+ℤ◌}
use Rattle.std.specs.Prelude.{option_map}
use Rattle.std.proofs.lemmas.Int.{to_z-of_z}
use Rattle.vd_space.specs.Bounds.{add, outputs_value}
use Rattle.vd_space.specs.Costs.{operation_value}
use Rattle.vd_space_prefix.proofs.Front.{grows}
use Rattle.vd_space_tables.specs.Values.{merged_value}
use Rattle.vd_space_tables.proofs.values.merged_values.Goals as goal

pub loop-place-preserved : goal.loop-place-preserved
loop-place-preserved c =
    let problem = c.args.problem.now in
    let slot = c.args.slot in
    let place = c.loop-place.place in
    let own = add (operation_value problem slot place) (outputs_value problem slot place problem.outputs) in
    grows (merged_value problem slot c.args.shifted.now) place c.loop-place.values c.push.new.self c.merged_at.result c.loop-place.invariant
    (c.merged_at.ensures ∙ ap (λ z. option_map (λ v. v +ℤ z) own) (to_z-of_z w64 c.amount_at.result (record { sfits = c.amount_at.type_inv }) ∙ c.amount_at.ensures)) c.in_ok-push.ensures.ok
