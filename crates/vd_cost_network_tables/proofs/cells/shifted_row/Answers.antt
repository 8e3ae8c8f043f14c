use Rattle.std.proofs.Common.{None, Option, ℤ, get_or, option_map, pos, ap₂, ◌∙◌, ◌+ℤ◌, ◌-ℤ◌, w64}
use Rattle.std.proofs.lemmas.Int.{to_z-of_z}
use Rattle.vd_space_prefix.proofs.Front.{grows}
use Rattle.vd_cost_network_tables.proofs.cells.shifted_row.Goals as goal

pub loop-second-preserved : goal.loop-second-preserved
loop-second-preserved c =
    let row = c.args.row.now in
    let to = c.args.to.now in
    let from = get_or c.args.from.now c.args.first (pos 0) in
    grows (λ w. option_map (λ v. v -ℤ (from +ℤ get_or to w (pos 0))) (get_or row w None)) c.loop-second.second c.loop-second.shifted c.push.new.self c.less.result c.loop-second.invariant
    (c.less.ensures ∙ ap₂ (λ (o : Option ℤ) (z : ℤ). option_map (λ v. v -ℤ z) o) c.value_at.ensures (to_z-of_z w64 c.taken.result (record { sfits = c.taken.type_inv }) ∙ c.taken.ensures.taken)) c.in_ok-push.ensures.ok
