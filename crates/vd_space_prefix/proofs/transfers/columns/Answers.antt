use Rattle.std.proofs.Common.{ap, ◌∙◌}
use Rattle.std.specs.Prelude.{unwrap_or}
use Rattle.vd_space.specs.Bounds.{nothing_left}
use Rattle.vd_space_prefix.specs.Transfers.{column_of}
use Rattle.vd_space_prefix.proofs.Fills.{grows_z}
use Rattle.vd_space_prefix.proofs.transfers.columns.Goals as goal

pub loop-second-preserved : goal.loop-second-preserved
loop-second-preserved c =
    grows_z (λ q. unwrap_or (column_of c.args.prices.now c.args.transfer.now c.args.firsts.now q) nothing_left) c.loop-second.second c.loop-second.columns c.push.new.self c.number_of.result
    c.loop-second.invariant (c.number_of.ensures ∙ ap (λ o. unwrap_or o nothing_left) c.least_in_column.ensures) (record { sfits = c.number_of.type_inv }) c.in_ok-push.ensures.ok
