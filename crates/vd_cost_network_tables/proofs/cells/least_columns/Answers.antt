use Rattle.std.proofs.Common.{ap, ◌∙◌}
use Rattle.vd_space_prefix.proofs.Front.{grows}
use Rattle.vd_cost_network_tables.specs.Tables.{least_column, least_row}
use Rattle.vd_cost_network_tables.proofs.cells.least_columns.Goals as goal

pub loop-second-preserved : goal.loop-second-preserved
loop-second-preserved c =
    grows (least_column c.args.firsts.now c.args.cells.now) c.loop-second.second c.loop-second.leasts c.push.new.self c.least_passing.result c.loop-second.invariant
    (c.least_passing.ensures ∙ ap (least_row c.args.firsts.now) (c.as_slice.ensures ∙ c.in_ok-column.ensures)) c.in_ok-push.ensures.ok
