use Rattle.vd_cost_network_ascent.proofs.Making.{adds_both, in_rows, puts_both}
use Rattle.vd_cost_network_dual.specs.Rows.{row_of}
use Rattle.vd_cost_network_ascent.proofs.cost_network_shifts.made.put_arc.Goals as goal

pub returns-clause-puts : goal.returns-clause-puts
returns-clause-puts c =
    puts_both c.put_row-2.result c.args.at c.args.places c.args.shifts.now c.put_row.new.shifts c.put_row-2.new.shifts c.in_ok-put_row.ensures.puts c.put_row-2.ensures.puts

pub returns-clause-adds : goal.returns-clause-adds
returns-clause-adds c =
    let nets = c.args.nets.now in
    adds_both (row_of nets.firsts) (row_of nets.seconds) c.args.places c.args.at c.row_at-firsts.result.now c.row_at-seconds.result.now c.args.shifts.now c.put_row.new.shifts c.put_row-2.new.shifts c.put_row-2.result
    (in_rows nets.firsts c.as_slice.result.now c.row_at-firsts.result.now c.args.at c.row_at-firsts.ensures c.as_slice.ensures.value)
    (in_rows nets.seconds c.as_slice-2.result.now c.row_at-seconds.result.now c.args.at c.row_at-seconds.ensures c.as_slice-2.ensures.value)
    (c.in_ok-put_row.ensures.adds c.if-not-branch.false) c.put_row-2.ensures.adds
