use Rattle.std.proofs.Common.{None, get_or, ap, ◌∙◌}
use Rattle.vd_base.specs.declared.protocols.Proto.TheVariants.{Local}
use Rattle.vd_base.specs.Moves.{move_at}
use Rattle.vd_base.specs.Holders.{proto_in}
use Rattle.vd_space.specs.Costs.{plus}
use Rattle.vd_space_api.specs.Rows.{weighed}
use Rattle.vd_space_api.proofs.Loops.{grows}
use Rattle.vd_space_api.proofs.space_shifts.terms.with_output.Goals as goal

pub loop-place-preserved : goal.loop-place-preserved
loop-place-preserved c =
    let row = c.args.row.now in
    let o = c.args.output.now in
    grows (λ p. plus (weighed o.weight (move_at (proto_in c.args.list.now p) (Local o.host))) (get_or row p None)) c.loop-place.place c.loop-place.sums c.push.new.self c.sum_of.result
    c.loop-place.invariant (c.sum_of.ensures ∙ ap (λ told. plus told (get_or row c.loop-place.place None)) c.told_at-told.ensures.value) c.in_ok-push.ensures.ok
