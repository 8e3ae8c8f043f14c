use Rattle.std.proofs.Common.{◌+◌, None, get_or, ap, ◌∙◌}
use Rattle.std.specs.Prelude.{option_map}
use Rattle.vd_space_api.proofs.Loops.{grows}
use Rattle.vd_space_api.proofs.space_shifts.rows.raised.Goals as goal

pub loop-place-preserved : goal.loop-place-preserved
loop-place-preserved c =
    let row = c.args.row.now in
    let amounts = c.args.amounts.now in
    grows (λ p. option_map (λ v. v + get_or amounts p 0) (get_or row p None)) c.loop-place.place c.loop-place.raised c.push.new.self c.raised_term.result
    c.loop-place.invariant (c.raised_term.ensures ∙ ap (λ a. option_map (λ v. v + a) (get_or row c.loop-place.place None)) c.amount_at.ensures) c.in_ok-push.ensures.ok
