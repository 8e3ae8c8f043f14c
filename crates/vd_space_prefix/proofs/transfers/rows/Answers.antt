use Rattle.std.proofs.Common.{ap, ◌∙◌}
use Rattle.std.specs.Prelude.{unwrap_or}
use Rattle.vd_space.specs.Bounds.{nothing_left}
use Rattle.vd_space_prefix.specs.Transfers.{row_of}
use Rattle.vd_space_prefix.proofs.Fills.{grows_z}
use Rattle.vd_space_prefix.proofs.transfers.rows.Goals as goal

pub loop-first-preserved : goal.loop-first-preserved
loop-first-preserved c =
    grows_z (λ p. unwrap_or (row_of c.args.prices.now c.args.transfer.now c.args.seconds.now p) nothing_left) c.loop-first.first c.loop-first.rows c.push.new.self c.number_of.result
    c.loop-first.invariant (c.number_of.ensures ∙ ap (λ o. unwrap_or o nothing_left) c.least_in_row.ensures) (record { sfits = c.number_of.type_inv }) c.in_ok-push.ensures.ok
