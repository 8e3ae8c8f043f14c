use Rattle.std.proofs.Common.{ap, ◌∙◌}
use Rattle.vd_space_tables.proofs.Front.{mapped}
use Rattle.vd_cost_network_tables.specs.Tables.{least_row}
use Rattle.vd_cost_network_tables.proofs.cells.least_rows.Goals as goal

pub loop-row-preserved : goal.loop-row-preserved
loop-row-preserved c =
    mapped (least_row c.args.seconds.now) c.args.cells.now c.loop-row.row-index c.row-item.result c.loop-row.leasts c.push.new.self c.least_passing.result c.loop-row-test.true c.loop-row.invariant
    (c.least_passing.ensures ∙ ap (least_row c.args.seconds.now) (c.as_slice.ensures ∙ c.row-item.is)) c.in_ok-push.ensures.ok
