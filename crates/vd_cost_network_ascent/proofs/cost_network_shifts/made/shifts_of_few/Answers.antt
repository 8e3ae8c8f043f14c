use Rattle.std.proofs.Common.{arith}
use Rattle.vd_cost_network_ascent.proofs.Making.{arc_next}
use Rattle.vd_cost_network_dual.specs.Rows.{row_of}
use Rattle.vd_cost_network_ascent.proofs.cost_network_shifts.made.shifts_of_few.Goals as goal

pub loop-at-preserved : goal.loop-at-preserved
loop-at-preserved c =
    let nets = c.args.nets.now in
    record {
      are = c.in_ok-put_arc.ensures.puts c.args.arcs c.args.places (omega arith) (omega arith) c.loop-at.invariant.are;
      amounts = arc_next (row_of nets.firsts) (row_of nets.seconds) c.args.places c.loop-at.at c.loop-at.shifts c.put_arc.new.shifts c.loop-at.invariant.amounts (c.in_ok-put_arc.ensures.adds c.if-not-branch.false);
    }
