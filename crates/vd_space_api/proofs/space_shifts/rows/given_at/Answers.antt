use Rattle.std.proofs.Common.{arith}
use Rattle.vd_space_api.proofs.space_shifts.rows.given_at.Goals as goal

pub overflow_add-result : goal.overflow_add-result
overflow_add-result c =
    let amount = c.requires.taken c.args.place in
    omega (arith, amount, c.amount_at-amount.ensures, c.in-Some.ensures.fits)
