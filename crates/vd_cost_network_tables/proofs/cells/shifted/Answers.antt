use Rattle.std.proofs.Common.{[], Option, List, ℤ, get_or, pos, ap, ◌∙◌}
use Rattle.vd_space_prefix.proofs.Front.{grows}
use Rattle.vd_cost_network_tables.specs.Tables.{shifted_row}
use Rattle.vd_cost_network_tables.proofs.cells.shifted.Goals as goal

pub loop-first-preserved : goal.loop-first-preserved
loop-first-preserved c =
    let from = c.args.from.now in
    let to = c.args.to.now in
    let first = c.loop-first.first in
    grows (λ v. shifted_row (get_or c.args.cells.now v []) (get_or from v (pos 0)) to) first c.loop-first.shifted c.push.new.self c.in_ok-shifted_row.field-0 c.loop-first.invariant
    (c.in_ok-shifted_row.ensures ∙ ap (λ (row : List (Option ℤ)). shifted_row row (get_or from first (pos 0)) to) c.row_at.ensures) c.in_ok-push.ensures.ok
